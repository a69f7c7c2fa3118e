use Rattle.std.proofs.Common.{sym, ◌∙◌}
use Rattle.word.proofs.Moving.{told_on, told_stops, told_ends}
use Rattle.word.proofs.pairs.told_apart.Goals as goal

pub returns-then-answer_alike : goal.returns-then-answer_alike
returns-then-answer_alike c =
    sym
    (c.loop-p.invariant ∙ told_stops _ _ _ _ c.loop-p-test.true c.answer_alike.ensures c.if-answer_alike.true)

pub loop-p-preserved : goal.loop-p-preserved
loop-p-preserved c =
    c.loop-p.invariant ∙ told_on _ _ _ _ c.loop-p-test.true c.answer_alike.ensures c.if-answer_alike.false

pub returns : goal.returns
returns c = sym (c.loop-p.invariant ∙ told_ends _ _ _ _ c.loop-p-test.false)
