use Rattle.std.proofs.Common.{◌-◌, length}
use Rattle.certify.proofs.Alternatives.{Along}
use Rattle.certify.proofs.chains.Tables.alternative.Given as goal

abbrev pub invariant-loop-v : goal.invariant-loop-v
invariant-loop-v l = Along l.self.xs.now l.self.alt l.r l.c l.v

abbrev pub decreases-loop-v : goal.decreases-loop-v
decreases-loop-v l = length l.self.xs.now - l.v
