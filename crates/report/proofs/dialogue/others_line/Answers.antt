use Rattle.report.specs.Dialogue.{other_line}
use Rattle.report.proofs.Putting.{next_append, next_prints}
use Rattle.sheet.specs.Writing.Laws.{puts_same}
use Rattle.report.proofs.Conversing.{others_more, others_last}
use Rattle.report.proofs.dialogue.others_line.Goals.{then-left-le1, else-left-le1}
use Rattle.report.proofs.dialogue.others_line.Goals as goal

pub returns : goal.returns
unfolding other_line
returns c =
    let left = c.args.left in
    let start = c.new-line.ensures in
    elim c.if-left-le1.branch [
      | then-left-le1 w ↦
          rw w.line-is
          (puts_same (others_last left w.if-left-le1.true)
          (next_prints start.bytes start.end (next_append _ _ c.put.ensures w.put_stop.ensures)))
      | else-left-le1 w ↦
          rw w.line-is
          (puts_same (others_more left w.if-left-le1.false) (next_prints start.bytes start.end c.put.ensures))
    ]
