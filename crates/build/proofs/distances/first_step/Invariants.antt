use Rattle.build.proofs.Searching.{Passing}
use Rattle.build.proofs.distances.first_step.Given as goal

abbrev pub invariant-loop-c : goal.invariant-loop-c
invariant-loop-c l = Passing l.m.next l.m.k l.distance l.s l.d l.c
