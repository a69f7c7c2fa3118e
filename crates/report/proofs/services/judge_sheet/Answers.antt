use Rattle.std.proofs.Common.{refl, sym, ap}
use Rattle.report.specs.Lines.{judge_line}
use Rattle.report.proofs.Putting.{prints_same}
use Rattle.report.proofs.Making.{writes_output}
use Rattle.report.proofs.services.judge_sheet.Goals as goal

pub returns : goal.returns
returns c =
    writes_output _ refl c.to_output.ensures
    (prints_same (ap judge_line (sym c.judge-answer.ensures.judges.answer.is))
    c.judge_line.ensures)
