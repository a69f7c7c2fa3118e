use Rattle.std.proofs.Common.{length}
use Rattle.machine.specs.Machine.{meaning}
use Rattle.desk.proofs.Identifying.{Following}
use Rattle.desk.proofs.identification.follow.Given as goal

abbrev pub invariant-loop-c : goal.invariant-loop-c
invariant-loop-c l = Following (meaning l.m) l.w l.ys l.s l.state (length l.yielded)
