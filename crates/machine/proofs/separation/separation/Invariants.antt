use Rattle.std.proofs.Common.{◌≡◌}
use Rattle.sheet.specs.Check.{first, Clear}
use Rattle.machine.specs.Machine.{meaning}
use Rattle.machine.specs.Causes.{pair_cause}
use Rattle.machine.proofs.separation.separation.Given as goal

abbrev pub invariant-loop-i : goal.invariant-loop-i
invariant-loop-i l = first l.i (λ i. first l.m.n (pair_cause (meaning l.m) l.w i)) ≡ Clear
