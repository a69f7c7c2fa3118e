use Rattle.sheet.specs.Check.Laws.{first_none, first_stops_with, first_goes_on}
use Rattle.certify.proofs.tally.least_unknown.Goals as goal

pub loop-e-init : goal.loop-e-init
loop-e-init c = first_none _

pub returns-in_err-refuse : goal.returns-in_err-refuse
returns-in_err-refuse c =
    first_stops_with _ c.loop-e-test.true c.loop-e.invariant c.refuse.ensures c.from_residual.ensures.1
    c.in_err-refuse.was

pub loop-e-preserved : goal.loop-e-preserved
loop-e-preserved c = first_goes_on _ _ c.loop-e.invariant c.refuse.ensures c.in_ok-refuse.was
