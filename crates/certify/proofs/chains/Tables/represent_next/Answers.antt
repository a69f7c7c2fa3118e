use Rattle.certify.specs.Sweep.{NextRepresented}
use Rattle.certify.proofs.chains.Tables.represent_next.Goals as goal

pub returns-then-marks-t-eq0-clause-next : goal.returns-then-marks-t-eq0-clause-next
returns-then-marks-t-eq0-clause-next c =
    NextRepresented.unmarked c.if-marks-t-eq0.true c.advance.ensures.same_root c.advance.ensures.advanced

pub returns-clause-next : goal.returns-clause-next
returns-clause-next c =
    let on = c.advance-2.ensures in
    NextRepresented.marked c.if-marks-t-eq0.false c.if-marks-after-ne0.false _ (rw (← on.same_root) at c.represent-r.ensures)
    on.advanced
