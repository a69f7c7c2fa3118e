use Rattle.machine.specs.Machine.{meaning}
use Rattle.machine.proofs.Runs.{Alike}
use Rattle.machine.proofs.separation.agree.Given as goal

abbrev pub invariant-loop-c : goal.invariant-loop-c
invariant-loop-c l = Alike (meaning l.m) l.w l.i l.j l.s l.t l.c-index
