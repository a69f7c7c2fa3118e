use Rattle.report.specs.Lines.{wrong_line}
use Rattle.report.proofs.Putting.{next_append, next_prints}
use Rattle.report.proofs.lines.wrong.Goals as goal

pub returns : goal.returns
unfolding wrong_line
returns c =
    next_prints c.new-line.ensures.bytes c.new-line.ensures.end
    (next_append _ _
    (next_append _ _
    (next_append _ _ c.put_labelled.ensures.next c.put_labelled-2.ensures.next)
    c.put_labelled-3.ensures.next)
    c.put.ensures)
