use Rattle.machine.specs.Machine.{meaning}
use Rattle.judge.proofs.Comparing.{Compared}
use Rattle.judge.proofs.comparison.compare.Given as goal

abbrev pub invariant-loop-i : goal.invariant-loop-i
invariant-loop-i l = Compared (meaning l.m) l.xs l.ys l.i l.s
