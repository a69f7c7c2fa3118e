-- The house unit's sheet carries the house unit and its word.
use Rattle.std.specs.Prelude.{ℕ, ◌≤◌, ◌≡◌, List, [], ◌∷◌, length}
use Rattle.std.proofs.Common.{ap, arith}
use Rattle.sheet.specs.Format.{standard, longest}
use Rattle.sheet.specs.Reader.{word_in}
use Rattle.sheet.specs.Joining.{joined, InOrder, fresh}
use Rattle.sheet.specs.Joining.Laws.{joined_none, joined_long, content_joined, standard_roles}
use Rattle.machine.specs.Machine.{machine_of}
use Rattle.machine.specs.Causes.{machine_in}
use Rattle.machine.specs.House.{house_payload, house, house_word}
use Rattle.machine.specs.House.Laws.{payload_long}
use Rattle.report.specs.Sheets.{house_sheet}

abbrev records : List (ℕ × List ℕ)
records = fresh standard.machine house_payload ∷ fresh standard.word house_word ∷ []

order : InOrder standard 0 records
order =
    let one = standard_roles.0.0 in
    let two = standard_roles.1.0.0 in (
      omega (arith, one),
      omega arith,
      omega (arith, payload_long),
      (omega (arith, one, two), omega arith, omega arith, tt),
    )

short : length (joined records) ≤ longest
short =
    let word = fresh standard.word house_word in
    let long = joined_long (fresh standard.machine house_payload) (word ∷ []) in
    omega (arith, payload_long, long, joined_long word [], ap length joined_none)

pub house_machine : machine_in house_sheet ≡ house
unfolding house_sheet house machine_in
house_machine = ap (machine_of standard) (content_joined standard records order short standard.machine)

pub house_word_lem : word_in house_sheet ≡ house_word
unfolding house_sheet
house_word_lem = content_joined standard records order short standard.word
