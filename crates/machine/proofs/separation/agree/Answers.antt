use Rattle.machine.proofs.Runs.{alike_end, alike_differs, alike_next}
use Rattle.machine.proofs.separation.agree.Goals as goal

pub returns-then-answer_to : goal.returns-then-answer_to
returns-then-answer_to c =
    alike_differs _ _ _ _ c.loop-c.invariant c.loop-c-test.true c.answer_to.ensures c.answer_to-in-loop-c.ensures
    c.if-answer_to.true

pub loop-c-preserved : goal.loop-c-preserved
loop-c-preserved c =
    alike_next _ _ _ _ c.loop-c.invariant c.loop-c-test.true c.answer_to.ensures c.answer_to-in-loop-c.ensures
    c.if-answer_to.false c.next_state-s.ensures c.next_state-t.ensures

pub returns : goal.returns
returns c = alike_end _ _ _ _ c.loop-c.invariant c.loop-c-test.false
