-- The laws of the search as a service: what each answer says, and that the word gives no cause 5 and no cause 6.
use Rattle.std.specs.Prelude.{Err}
use Rattle.std.specs.Prelude.{ℕ, ◌≡◌, refl, List, [], ◌∷◌, length, take}
use Rattle.std.proofs.Common.{ap, ◌∙◌, arith, take_at}
use Rattle.std.proofs.Math.Option.{Option, none, some, mem_unique}
use Rattle.facts.specs.FirstOf.{some_none, Seen, nothing, value, seen}
use Rattle.sheet.specs.Check.{first_cause, Check, Clear, Refused}
use Rattle.word.specs.Answer.{Answer, Found, Nothing}
use Rattle.sheet.specs.Reader.{machine_payload, word_in, word_record}
use Rattle.machine.specs.Machine.{Mealy, Proper, Distinguishes}
use Rattle.machine.specs.Causes.{machine_in, word_causes_in}
use Rattle.machine.specs.Causes.Lists.{distinguishes_clear, machine_same, load_proper}
use Rattle.word.specs.Search.{Eligible, IsSought, search}
use Rattle.word.specs.Search.Laws.{search_is, is_search, none_eligible, eligible_none, single_word}
use Rattle.word.specs.Service.{search_needs, search_causes, answer_of, searching, word_found, padded, word_beside}

-- ---- the answer and the array, by the first cause
module _ (s : List ℕ) where
  pub searching_refused : {a b : ℕ} → first_cause (search_causes s) ≡ Refused a b → searching s ≡ Refused a b
  unfolding searching
  searching_refused e = rw e

  pub searching_clear : first_cause (search_causes s) ≡ Clear → searching s ≡ answer_of (search (machine_in s))
  unfolding searching
  searching_clear e = rw e

  pub found_refused : {a b : ℕ} → first_cause (search_causes s) ≡ Refused a b → word_found s ≡ none
  unfolding word_found
  found_refused e = rw e

  pub found_clear : first_cause (search_causes s) ≡ Clear → word_found s ≡ search (machine_in s)
  unfolding word_found
  found_clear e = rw e

  pub searched_proper : first_cause (search_causes s) ≡ Clear → Proper (machine_in s)
  searched_proper e = load_proper search_needs s e

-- ---- what each answer says
-- what an answer to a sheet says: a cause of the machine is the first; or none is present, and the word is the one
-- that is sought, or no word of 1 to 6 commands separates. The word that was found is told besides, by which the array
-- is known
pub data Outcome (s : List ℕ) (a : Answer) : Type 0 where
  refused : (number place : ℕ) → first_cause (search_causes s) ≡ Refused number place → a ≡ Refused number place
      → word_found s ≡ none → Outcome s a
  found : (w : List ℕ) → first_cause (search_causes s) ≡ Clear → IsSought (machine_in s) w → a ≡ Found (length w)
      → word_found s ≡ some w → Outcome s a
  missing : first_cause (search_causes s) ≡ Clear → ((u : List ℕ) → Eligible (machine_in s) u → ⊥) → a ≡ Nothing
      → word_found s ≡ none → Outcome s a

-- the search gives such an answer
pub searching_outcome : (s : List ℕ) → Outcome s (searching s)
searching_outcome s = go (first_cause (search_causes s)) refl (seen (search (machine_in s)))
  where
    go : (c : Check) → first_cause (search_causes s) ≡ c → Seen (search (machine_in s)) → Outcome s (searching s)
    go (Err r) c o = refused r.number r.place c (searching_refused s c) (found_refused s c)
    go Clear c (nothing e) =
        missing c (none_eligible (machine_in s) (searched_proper s c) e) (rw (searching_clear s c, e))
        (found_clear s c ∙ e)
    go Clear c (value w e) =
        found w c (search_is (machine_in s) (searched_proper s c) e) (rw (searching_clear s c, e)) (found_clear s c ∙ e)

-- where no cause of the machine is present, the word that is sought is found, and nothing where no word is eligible
module _ (s : List ℕ) (c : first_cause (search_causes s) ≡ Clear) where
  answered_by : {o : Option (List ℕ)} → search (machine_in s) ≡ o → (searching s ≡ answer_of o) × (word_found s ≡ o)
  answered_by e = (searching_clear s c ∙ ap answer_of e, found_clear s c ∙ e)

  pub sought_found : {w : List ℕ} → IsSought (machine_in s) w → (searching s ≡ Found (length w)) × (word_found s ≡ some w)
  sought_found h = answered_by (is_search (machine_in s) (searched_proper s c) h)

  pub none_found : ((u : List ℕ) → Eligible (machine_in s) u → ⊥) → (searching s ≡ Nothing) × (word_found s ≡ none)
  none_found h = answered_by (eligible_none (machine_in s) (searched_proper s c) h)

  -- of a machine with one state the word 0
  pub single_answered : (machine_in s).n ≡ 1 → (searching s ≡ Found 1) × (word_found s ≡ some (0 ∷ []))
  single_answered one = answered_by (single_word (machine_in s) (searched_proper s c) one)

-- of a word that is answered: it is the first so many bytes of the array, and the word that is sought
pub record Answered (s : List ℕ) (size : ℕ) : Type 0 where
  pub clear : first_cause (search_causes s) ≡ Clear
  pub word : List ℕ
  pub long : length word ≡ size
  pub beside : take size (word_beside s) ≡ word
  pub found : word_found s ≡ some word
  pub sought : IsSought (machine_in s) word

pub found_answered : (s : List ℕ) {size : ℕ} → searching s ≡ Found size → Answered s size
found_answered s {size} e = elim (searching_outcome s) [
  | refused number place c a o ↦ (let y : ◌≡◌ {A = ℕ} 0 1 = cc in absurd (omega arith))
  | missing c h a o ↦ (let y : ◌≡◌ {A = ℕ} 0 1 = cc in absurd (omega arith))
  | found w c h a o ↦ (let long : length w ≡ size = cc in
      record {
        clear = c;
        word = w;
        long = long;
        beside = ap (λ (x : Option (List ℕ)). take size (padded x)) o ∙ take_at w _ size long;
        found = o;
        sought = h;
      })
]

-- ---- the word in a sheet
-- an eligible word is one that every service takes
pub eligible_distinguishes : (M : Mealy) {w : List ℕ} → Eligible M w → Distinguishes M w
eligible_distinguishes M h = record {
  commands = record { some = h.commands.some; few = omega (arith, h.commands.few); low = h.commands.low };
  separates = h.separates;
}

-- a sheet with the same payload of the machine, and with the word that was found, has no cause 5 and no cause 6
pub found_passes : (s t : List ℕ) {w : List ℕ} → word_found s ≡ some w → machine_payload t ≡ machine_payload s
    → word_in t ≡ w → first_cause (word_causes_in t) ≡ Clear
found_passes s t e one two = elim (searching_outcome s) [
  | refused number place c a o ↦ absurd (some_none e o)
  | missing c h a o ↦ absurd (some_none e o)
  | found v c h a o ↦ distinguishes_clear (machine_in t) (word_record t).start (word_in t)
      (rw (machine_same s t one, two, ← mem_unique o e) (eligible_distinguishes (machine_in s) h.has))
]
