use Rattle.std.proofs.Common.{refl, sym, ap}
use Rattle.report.specs.Lines.{certify_line}
use Rattle.report.proofs.Putting.{prints_same}
use Rattle.report.proofs.Making.{writes_output}
use Rattle.report.proofs.services.certify_sheet.Goals as goal

pub returns : goal.returns
returns c =
    writes_output _ refl c.to_output.ensures
    (prints_same (ap certify_line (sym c.certify-answer.ensures.answer.is))
    c.certify_line.ensures)
