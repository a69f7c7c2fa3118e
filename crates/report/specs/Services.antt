-- What each service of the bench writes to which stream (§8.2), by the bytes that it is given. Laws: Services.Laws.
use Rattle.std.specs.Prelude.{ℕ, ◌+◌, List, [], ◌∷◌}
use Rattle.std.proofs.Math.Option.{Option, none, some}
use Rattle.sheet.specs.Check.{first_cause}
use Rattle.sheet.specs.Reader.{refusal_of, content}
use Rattle.machine.specs.Limits.{most_sequence}
use Rattle.machine.specs.Causes.{machine_in}
use Rattle.writer.specs.declared.wanted.Wanted.{Wanted}
use Rattle.writer.specs.declared.wanted.Wanted.TheVariants.{Answers}
use Rattle.writer.specs.Parts.{Parts, with_answers, sheet_of}
use Rattle.writer.specs.Writer.{part_causes, answers_causes}
use Rattle.word.specs.Search.{search}
use Rattle.word.specs.Service.{search_causes}
use Rattle.certify.specs.Certification.{certification}
use Rattle.build.specs.Building.{connected_causes}
use Rattle.judge.specs.Judging.{judgement}
use Rattle.report.specs.declared.words.Mistake.{Mistake}
use Rattle.report.specs.Lines.{judge_line, certify_line, word_line, none_line}
use Rattle.report.specs.Words.{help_text, mistake_line}
use Rattle.report.specs.Sheets.{word_sheet, built_sheet, house_sheet}
use Rattle.report.specs.Output.{Output, on_output, on_error, output_unless, bytes_unless}
use Rattle.sheet.specs.Format.{standard}
pub mod Laws

-- ---- services whose result is a line, which also tells a refusal
-- `bench judge`: the line of judging, also for a refusal. There is room for the marks of every sequence
abbrev pub judged : List ℕ → Output
judged s = on_output (judge_line (judgement (most_sequence + 1) s))

-- `bench certify`: the line of certifying, with the same room
abbrev pub certified : List ℕ → Output
certified s = on_output (certify_line (certification (most_sequence + 1) s))

-- ---- services whose result is bytes
-- what is written of a word that was found: the sheet with it, and its line on standard error; of none that line alone
abbrev pub found_output : List ℕ → Option (List ℕ) → Output
found_output s none = on_error none_line
found_output s (some w) = record { out = word_sheet s w; err = word_line w }

-- `bench word`
unfoldable pub searched : List ℕ → Output
searched s = output_unless (first_cause (search_causes s)) (found_output s (search (machine_in s)))

-- the sheet with the built sequence; there is room for every sequence, so that 9 is never present
abbrev pub built : List ℕ → Output
built s = bytes_unless (first_cause (connected_causes s)) (built_sheet s)

-- the payload of the record of a kind, nothing added
abbrev pub record_read : ℕ → List ℕ → Output
record_read kind s = bytes_unless (refusal_of standard (kind ∷ []) s) (content standard (kind ∷ []) s)

-- `bench write`: the sheet of the wanted parts (§15.1); there is room for every sheet, so that 9 is never present
abbrev pub sheet_written : Wanted → Parts → Output
sheet_written v p = bytes_unless (first_cause (part_causes v p)) (sheet_of v p)

-- `bench answers`: the sheet with these answers (§15.3), with the same room
abbrev pub answers_written : List ℕ → List ℕ → Output
answers_written s ys = bytes_unless (first_cause (answers_causes s ys)) (sheet_of Answers (with_answers s ys))

-- the house unit's sheet
abbrev pub house_written : Output
house_written = on_output house_sheet

-- ---- the arguments themselves
-- `bench help`: the list of services
abbrev pub helped : Output
helped = on_output help_text

-- wrong arguments: their line on standard error
abbrev pub mistaken : Mistake → Output
mistaken mistake = on_error (mistake_line mistake)
