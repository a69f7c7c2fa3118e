use Rattle.machine.specs.Machine.{meaning}
use Rattle.build.specs.Sequence.Cycle.{gap}
use Rattle.build.proofs.Parts.{Approaching}
use Rattle.build.proofs.writing.Sequence.approach.Given as goal

abbrev pub invariant-loop-present : goal.invariant-loop-present
invariant-loop-present l =
    Approaching (meaning l.self.machine) l.self.word.now l.initial.buffer l.initial.at
    l.initial.present l.s l.buffer l.at l.present

abbrev pub decreases-loop-present : goal.decreases-loop-present
decreases-loop-present l = gap l.self.machine.n l.present l.s
