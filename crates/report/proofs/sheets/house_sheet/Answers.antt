use Rattle.std.proofs.Common.{ℕ, refl, ap₂, List, [], ◌∷◌}
use Rattle.sheet.specs.Format.{standard}
use Rattle.sheet.specs.Joining.{joined, fresh}
use Rattle.machine.specs.House.{house_word}
use Rattle.report.specs.Sheets.{house_sheet}
use Rattle.report.proofs.Putting.{next_same, next_prints}
use Rattle.report.proofs.Making.{writes_output}
use Rattle.report.proofs.sheets.house_sheet.Goals as goal

pub returns : goal.returns
unfolding house_sheet
returns c =
    writes_output _ refl c.to_output.ensures
    (next_prints c.new-house.ensures.bytes c.new-house.ensures.end
    (next_same
    (ap₂ (λ (k : ℕ) (p : List ℕ). joined ((k, p) ∷ fresh standard.word house_word ∷ [])) c.new_kind-kind.ensures
    c.house_payload-table.ensures)
    c.put_two.ensures.next))
