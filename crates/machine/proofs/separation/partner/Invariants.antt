use Rattle.std.proofs.Common.{◌≡◌}
use Rattle.sheet.specs.Check.{first, Clear}
use Rattle.machine.specs.Machine.{meaning}
use Rattle.machine.specs.Causes.{pair_cause}
use Rattle.machine.proofs.separation.partner.Given as goal

abbrev pub invariant-loop-j : goal.invariant-loop-j
invariant-loop-j l = first l.j (pair_cause (meaning l.m) l.w l.i) ≡ Clear
