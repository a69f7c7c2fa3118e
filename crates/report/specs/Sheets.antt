-- The sheets that `bench word`, `bench build` and `bench house` write (§8.2), as joined records. Sheets.Found shows
-- what the first carries and that building takes it, Sheets.Certified that the second carries the built sequence and is
-- certified, both that the given sheet's own bytes stand at the front, by Sheets.Kept; Sheets.House shows what the
-- third carries. Sheets.Written has what the services make of a sheet that the writer writes.
use Rattle.std.specs.Prelude.{ℕ, List, [], ◌∷◌}
use Rattle.sheet.specs.Format.{standard}
use Rattle.sheet.specs.Reader.{word_in}
use Rattle.sheet.specs.Joining.{joined, record_in, fresh}
use Rattle.machine.specs.Causes.{machine_in}
use Rattle.machine.specs.House.{house_payload, house_word}
use Rattle.build.specs.Sequence.{sequence}
pub mod Kept
pub mod Found
pub mod Certified
pub mod House
pub mod Written

-- the sheet that `bench word` writes (§8.2): the machine's record as it is, and the word that was found
unfoldable pub word_sheet : List ℕ → List ℕ → List ℕ
word_sheet s w = joined (record_in standard s standard.machine ∷ fresh standard.word w ∷ [])

-- the sheet that `bench build` writes (§8.2): the machine's record as it is, the word, and the built sequence
unfoldable pub built_sheet : List ℕ → List ℕ
built_sheet s =
    joined
    (record_in standard s standard.machine
    ∷ fresh standard.word (word_in s)
    ∷ fresh standard.sequence (sequence (machine_in s) (word_in s))
    ∷ [])

-- the house unit's sheet (§8.2, §10.1): its machine and its word
unfoldable pub house_sheet : List ℕ
house_sheet = joined (fresh standard.machine house_payload ∷ fresh standard.word house_word ∷ [])
