use Rattle.std.proofs.Common.{arith}
use Rattle.std.proofs.lemmas.Bool.Decides.{nat_tests}
use Rattle.report.proofs.Conversing.{reply_long, reply_empty, reply_more, number_most, reply_answer, reply_none}
use Rattle.report.proofs.dialogue.reply_of.Goals as goal
use Rattle.report.proofs.dialogue.reply_of.Goals.{then-is_empty-via-then-is_empty}
use Rattle.report.proofs.dialogue.reply_of.Goals.{then-is_empty-via-else-is_empty+then-line-gt3}

pub returns-then-line-gt-LINE : goal.returns-then-line-gt-LINE
returns-then-line-gt-LINE c = reply_long c.args.line.now c.if-line-gt-LINE.true

pub returns-then-is_empty : goal.returns-then-is_empty
returns-then-is_empty c =
    let line = c.args.line.now in
    elim c.then-is_empty.branch [
      | then-is_empty-via-then-is_empty w ↦ reply_empty line (grind (arith, nat_tests))
      | then-is_empty-via-else-is_empty+then-line-gt3 w ↦ reply_more line c.if-line-gt-LINE.false w.if-line-gt3.true
    ]

pub overflow_cast-result : goal.overflow_cast-result
overflow_cast-result c =
    let l = number_most 255 c.args.line.now c.in-Some.ensures in omega arith

pub returns-in-Some : goal.returns-in-Some
returns-in-Some c =
    reply_answer c.args.line.now (grind (arith, nat_tests)) c.if-line-gt3.false (c.in-Some.ensures)

pub returns-in-None : goal.returns-in-None
returns-in-None c =
    reply_none c.args.line.now (grind (arith, nat_tests)) c.if-line-gt3.false (c.in-None.ensures)
