use Rattle.build.proofs.Rounds.{Widening}
use Rattle.build.proofs.distances.widen.Given as goal

abbrev pub invariant-loop-s : goal.invariant-loop-s
invariant-loop-s l = Widening l.m.next l.m.k l.initial.distance l.d l.distance l.s
