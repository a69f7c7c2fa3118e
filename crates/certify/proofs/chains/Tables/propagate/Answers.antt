use Rattle.certify.proofs.Following.{propagation_starts, propagation_on}
use Rattle.certify.proofs.chains.Tables.propagate.Goals as goal

pub loop-left-init : goal.loop-left-init
loop-left-init c = propagation_starts c.requires c.restart-at.ensures

pub loop-left-preserved : goal.loop-left-preserved
loop-left-preserved c =
    propagation_on c.requires c.loop-left.invariant c.in-Some.is c.follow-at.ensures
