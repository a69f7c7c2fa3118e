use Rattle.machine.specs.Machine.{meaning}
use Rattle.build.proofs.Parts.{Opening}
use Rattle.build.proofs.writing.Sequence.opening.Given as goal

abbrev pub invariant-loop-i : goal.invariant-loop-i
invariant-loop-i l =
    Opening (meaning l.self.machine) l.self.word.now l.initial.buffer l.buffer l.at l.present
    l._i
