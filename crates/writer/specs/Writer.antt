-- The writer: its causes in order (§15.2), what it promises, and adding answers to a sheet (§15.3). The laws stand in
-- Writer.Laws; Writer.Reading has how a written sheet is read and loaded, Writer.Same that a sheet's own parts make
-- that sheet, Writer.Answered what adding answers makes of a sheet.
use Rattle.std.specs.Prelude.{ℕ, List, [], ◌∷◌, ◌++◌, length}
use Rattle.sheet.specs.Check.{first_cause, Check}
use Rattle.sheet.specs.Promise.{Writes, Answer}
use Rattle.sheet.specs.Format.{standard, offset}
use Rattle.sheet.specs.Reader.{sheet_causes, when, needed}
use Rattle.machine.specs.Machine.{Mealy, machine_of}
use Rattle.machine.specs.Causes.{cause10, table_causes, word_causes, sequence_causes}
use Rattle.writer.specs.declared.wanted.Wanted.{Wanted}
use Rattle.writer.specs.declared.wanted.Wanted.TheVariants.{Sequence, Answers}
use Rattle.writer.specs.Parts.{Parts, with_answers, needs_of, sheet_of, word_start, sequence_start}
pub mod Laws
pub mod Reading
pub mod Same
pub mod Answered

-- the causes of sequence and answers, 7 and 10, each where it is wanted; the sequence's record starts at an offset, and
-- that of the answers where it ends (§15.2)
abbrev pub later_causes : Wanted → Mealy → ℕ → List ℕ → List ℕ → List Check
later_causes v M at xs ys =
    when (needs_of v).sequence (sequence_causes M at xs)
    ++ when (needs_of v).answers (cause10 (offset at (length xs)) xs ys ∷ [])

-- the causes of the wanted parts in order, 3, 4, 12, 5, 6, 7 and 10 (§15.2). Each record counts from where it stands in
-- the sheet of the parts; 9 comes last by the promise (§4.3)
unfoldable pub part_causes : Wanted → Parts → List Check
part_causes v p =
    let M = machine_of standard p.machine in
    table_causes standard 0 p.machine
    ++ (word_causes M (word_start p) p.word ++ later_causes v M (sequence_start p) p.sequence p.answers)

-- what the writer promises (§4.4, §15.2)
abbrev pub WritesParts : Wanted → Parts → List ℕ → List ℕ → Answer → Type 0
WritesParts v p before after a = Writes (first_cause (part_causes v p)) (sheet_of v p) before after a

-- ---- adding answers
-- its causes (§15.3): 1 and 2, where machine, word and sequence are needed, then the writer's
unfoldable pub answers_causes : List ℕ → List ℕ → List Check
answers_causes s ys =
    sheet_causes standard (needed standard (needs_of Sequence)) s ++ part_causes Answers (with_answers s ys)

-- what it promises (§4.4, §15.3): the sheet of the given one's machine, word and sequence, and these answers
abbrev pub AddsAnswers : List ℕ → List ℕ → List ℕ → List ℕ → Answer → Type 0
AddsAnswers s ys before after a =
    Writes (first_cause (answers_causes s ys)) (sheet_of Answers (with_answers s ys)) before after a
