-- The bench (§8.2): from its arguments, here called words, and the bytes that it reads to those that it writes to
-- standard output and to standard error; of the desk, what it writes before the first answer. The laws stand in
-- Bench.Laws, Bench.Cut and Bench.Input.
use Rattle.std.specs.Prelude.{ℕ, List, [], get_or}
use Rattle.writer.specs.Parts.{Parts, parts_of, wanted_of}
use Rattle.report.specs.Output.{Output}
use Rattle.report.specs.Services.{judged, certified, searched, built, record_read, house_written, helped, mistaken}
use Rattle.report.specs.Services.{sheet_written, answers_written}
use Rattle.report.specs.Dialogue.{begun}
use Rattle.bench.specs.declared.services.Inputs.{Inputs as GivenInputs}
use Rattle.bench.specs.declared.words.Service.{Service}
use Rattle.bench.specs.declared.words.Service.TheVariants.{Wrong, OnSheet, Write, AddAnswers, House, Help}
use Rattle.bench.specs.declared.words.SheetService.{SheetService}
use Rattle.bench.specs.declared.words.SheetService.TheVariants.{Judge, Certify, Word, Build, Read, Desk}
use Rattle.bench.specs.declared.words.Source.{Source}
use Rattle.bench.specs.declared.words.Source.TheVariants.{Nothing, Standard, File, Parts as PartsSource}
use Rattle.bench.specs.declared.words.Source.TheVariants.{Answers as AnswersSource}
use Rattle.bench.specs.Words.{service_of}
pub mod Laws
pub mod Cut
pub mod Input

-- what there is to read (§8.2): a sheet, and the parts of one, each in a file
pub record Inputs : Type 0 where
  pub sheet : List ℕ
  pub parts : Parts

-- the same by the sheet, and the parts in the order of their kinds
abbrev pub inputs_of : List ℕ → List (List ℕ) → Inputs
inputs_of s ps =
    record { sheet = s; parts = parts_of (get_or ps 0 []) (get_or ps 1 []) (get_or ps 2 []) (get_or ps 3 []) }

-- the same as the program has them
abbrev pub inputs_in : GivenInputs → Inputs
inputs_in x =
    record { sheet = x.sheet.now; parts = parts_of x.machine.now x.word.now x.sequence.now x.answers.now }

-- what a service on a sheet writes
abbrev pub sheet_output : SheetService → List ℕ → Output
sheet_output Judge s = judged s
sheet_output Certify s = certified s
sheet_output Word s = searched s
sheet_output Build s = built s
sheet_output (Read kind) s = record_read kind s
sheet_output Desk s = begun s

-- what a service writes, of what there is to read
abbrev pub output : Service → Inputs → Output
output (Wrong mistake) x = mistaken mistake
output (OnSheet service) x = sheet_output service x.sheet
output (Write wanted) x = sheet_written wanted x.parts
output AddAnswers x = answers_written x.sheet x.parts.answers
output House x = house_written
output Help x = helped

-- where the sheet comes from: of the desk from the file that the argument names, else from standard input
abbrev pub sheet_from : SheetService → Source
sheet_from Judge = Standard
sheet_from Certify = Standard
sheet_from Word = Standard
sheet_from Build = Standard
sheet_from (Read kind) = Standard
sheet_from Desk = File

-- where a service's inputs come from (§8.2): parts and answers from the files that the arguments name
abbrev pub source_of : Service → Source
source_of (Wrong mistake) = Nothing
source_of (OnSheet service) = sheet_from service
source_of (Write wanted) = PartsSource
source_of AddAnswers = AnswersSource
source_of House = Nothing
source_of Help = Nothing

-- what is read for a service (§8.2); the rest is taken as empty, which changes nothing (read_enough, in Bench.Laws)
abbrev pub read_for : Service → Inputs → Inputs
read_for (Wrong mistake) x = inputs_of [] []
read_for (OnSheet service) x = inputs_of x.sheet []
read_for (Write wanted) x = record { sheet = []; parts = wanted_of wanted x.parts }
read_for AddAnswers x = record { sheet = x.sheet; parts = parts_of [] [] [] x.parts.answers }
read_for House x = inputs_of [] []
read_for Help x = inputs_of [] []

-- what the bench writes
unfoldable pub bench : List (List ℕ) → Inputs → Output
bench words x = output (service_of words) x
