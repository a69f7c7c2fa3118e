use Rattle.machine.specs.Machine.{meaning}
use Rattle.build.proofs.Connecting.{Connecting}
use Rattle.build.proofs.table.connect.Given as goal

abbrev pub invariant-loop-s : goal.invariant-loop-s
invariant-loop-s l = Connecting (meaning l.m) l.w l.rows l.s
