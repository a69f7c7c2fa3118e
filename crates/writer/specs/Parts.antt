-- The parts of a sheet by role (§2.2), and the sheet that is written of those that are wanted (§15.1). The laws stand
-- in Parts.Laws.
use Rattle.std.specs.Prelude.{ℕ, true, false, List, [], ◌∷◌, ◌++◌, length}
use Rattle.sheet.specs.declared.reader.Needs.{Needs}
use Rattle.sheet.specs.Format.{standard, offset}
use Rattle.sheet.specs.Reader.{when, machine_payload, word_in, sequence_in, answers_in}
use Rattle.sheet.specs.Joining.{joined, fresh}
use Rattle.writer.specs.declared.parts.Parts.{Parts as Lent}
use Rattle.writer.specs.declared.wanted.Wanted.{Wanted}
use Rattle.writer.specs.declared.wanted.Wanted.TheVariants.{Word, Sequence, Answers}
pub mod Laws

-- the payload of each role, as reading gives it (§2.4)
pub record Parts : Type 0 where
  pub machine : List ℕ
  pub word : List ℕ
  pub sequence : List ℕ
  pub answers : List ℕ

-- these four payloads as parts
abbrev pub parts_of : List ℕ → List ℕ → List ℕ → List ℕ → Parts
parts_of machine word sequence answers =
    record { machine = machine; word = word; sequence = sequence; answers = answers }

-- the parts that a value of the program's type Parts lends
abbrev pub lent_parts : Lent → Parts
lent_parts p = parts_of p.machine.now p.word.now p.sequence.now p.answers.now

-- the parts of a sheet, with these answers in place of its own (§15.3)
abbrev pub with_answers : List ℕ → List ℕ → Parts
with_answers s ys = parts_of (machine_payload s) (word_in s) (sequence_in s) ys

-- the parts of a sheet (§2.4); one that reading refuses is empty
abbrev pub parts_in : List ℕ → Parts
parts_in s = with_answers s (answers_in s)

-- which roles are wanted besides the machine (§15.1), in the form in which a service says which it needs (§2.3)
abbrev pub needs_of : Wanted → Needs
needs_of Word = record { word = true; sequence = false; answers = false }
needs_of Sequence = record { word = true; sequence = true; answers = false }
needs_of Answers = record { word = true; sequence = true; answers = true }

-- the records of the machine and of the wanted parts, in the order of their kinds (§2.1)
abbrev pub records_of : Wanted → Parts → List (ℕ × List ℕ)
records_of v p =
    fresh standard.machine p.machine
    ∷ fresh standard.word p.word
    ∷ (when (needs_of v).sequence (fresh standard.sequence p.sequence ∷ [])
    ++ when (needs_of v).answers (fresh standard.answers p.answers ∷ []))

-- the wanted parts alone, and nothing for the others, which play no role (§15.2): wanted_alone, in Writer.Laws
abbrev pub wanted_of : Wanted → Parts → Parts
wanted_of Word p = parts_of p.machine p.word [] []
wanted_of Sequence p = parts_of p.machine p.word p.sequence []
wanted_of Answers p = p

-- the sheet that is written (§15.1)
unfoldable pub sheet_of : Wanted → Parts → List ℕ
sheet_of v p = joined (records_of v p)

-- where its records start (§2.1, §15.2): the machine's at 0, the word's where that one ends
abbrev pub word_start : Parts → ℕ
word_start p = offset 0 (length p.machine)

-- the sequence's where the word's ends
abbrev pub sequence_start : Parts → ℕ
sequence_start p = offset (word_start p) (length p.word)

-- the answers' where the sequence's ends
abbrev pub answers_start : Parts → ℕ
answers_start p = offset (sequence_start p) (length p.sequence)
