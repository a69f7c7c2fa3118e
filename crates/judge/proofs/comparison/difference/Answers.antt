use Rattle.std.proofs.Common.{sym}
use Rattle.judge.specs.Judging.Verdict.{difference_wrong, difference_unheard}
use Rattle.judge.proofs.comparison.difference.Goals as goal

pub returns-then-given-eq-NO_ANSWER : goal.returns-then-given-eq-NO_ANSWER
returns-then-given-eq-NO_ANSWER c = sym (difference_unheard _ c.args.specified _ c.if-given-eq-NO_ANSWER.true)

pub returns : goal.returns
returns c = sym (difference_wrong _ _ _ c.if-given-eq-NO_ANSWER.false)
