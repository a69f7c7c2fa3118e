-- The search for a word as a service (§14.2): its causes, its answer, and the word beside it. The laws stand in
-- Service.Laws.
use Rattle.std.specs.Prelude.{Err}
use Rattle.std.specs.Prelude.{ℕ, ◌≡◌, false, List, [], ◌⊎◌, length, replicate}
use Rattle.std.proofs.Common.{inl, inr}
use Rattle.std.proofs.Math.Option.{Option, none, some, get_or}
use Rattle.sheet.specs.Check.{first_cause, refused_or, Check, Refused}
use Rattle.word.specs.Answer.{Answer, Found, Nothing}
use Rattle.sheet.specs.declared.check.Values.{Values}
use Rattle.sheet.specs.declared.reader.Needs.{Needs}
use Rattle.sheet.specs.Values.{refusal_values, Returns}
use Rattle.sheet.specs.Writing.{written}
use Rattle.machine.specs.Causes.{machine_in, load_causes}
use Rattle.word.specs.declared.answer.Searched.{Searched}
use Rattle.word.specs.Search.{most_sought, search}
pub mod Laws

-- the kinds that the search needs (§2.3): the machine alone
abbrev pub search_needs : Needs
search_needs = record { word = false; sequence = false; answers = false }

-- the causes of loading in order (§4.1, §14.2), which with these needs are 1 to 4 and 12
abbrev pub search_causes : List ℕ → List Check
search_causes s = load_causes search_needs s

-- what is answered where nothing is refused (§14.2): the length of the word, or nothing
abbrev pub answer_of : Option (List ℕ) → Answer
answer_of none = Nothing
answer_of (some w) = Found (length w)

-- what the search answers to a sheet (§14.2)
unfoldable pub searching : List ℕ → Answer
searching s = refused_or Refused (first_cause (search_causes s)) (answer_of (search (machine_in s)))

-- the word that was found for a sheet, or none (§14.2); none too where something is refused
unfoldable pub word_found : List ℕ → Option (List ℕ)
word_found s = refused_or (λ number place. none) (first_cause (search_causes s)) (search (machine_in s))

-- as many zeros as the longest word that is sought has commands
abbrev pub zeros : List ℕ
zeros = replicate most_sought 0

-- a word with zeros behind it, or zeros alone
abbrev pub padded : Option (List ℕ) → List ℕ
padded o = written (get_or o []) zeros

-- the array beside the answer (§14.2): the commands of the word from the front, and 0 behind them; all 0 without a word
abbrev pub word_beside : List ℕ → List ℕ
word_beside s = padded (word_found s)

-- number and values of each answer (§4.4, §14.2): of found the length, of nothing none, for which §8.3 has no class; of
-- a refusal its own
abbrev pub values_of : Answer → Values ⊎ Option ℕ
values_of (Found size) = inr (some size)
values_of Nothing = inr none
values_of (Err r) = inl (refusal_values r.number r.place)

-- what the search promises of a sheet (§4.4): the specified answer with its number and values, and every byte of the
-- array beside it
pub record Searches (s : List ℕ) (r : Searched) : Type 0 where
  pub answer : Returns values_of (searching s) r.answer
  pub word : r.word ≡ word_beside s
