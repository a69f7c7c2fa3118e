use Rattle.machine.specs.Machine.{meaning}
use Rattle.build.specs.Distances.{Distances}
use Rattle.build.proofs.distances.measure.Given as goal

abbrev pub invariant-loop-d : goal.invariant-loop-d
invariant-loop-d l = Distances (meaning l.m) l.to l.d l.distance
