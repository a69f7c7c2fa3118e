use Rattle.machine.specs.Machine.{meaning}
use Rattle.certify.proofs.Following.{Propagating}
use Rattle.certify.proofs.chains.Tables.propagate.Given as goal

abbrev pub invariant-loop-left : goal.invariant-loop-left
invariant-loop-left l = Propagating (meaning l.m) l.self.xs.now l.initial.marks l.marks l.at

abbrev pub decreases-loop-left : goal.decreases-loop-left
decreases-loop-left l = l.left
