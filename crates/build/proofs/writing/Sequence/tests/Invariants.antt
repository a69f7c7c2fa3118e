use Rattle.machine.specs.Machine.{meaning}
use Rattle.build.proofs.Parts.{Testing}
use Rattle.build.proofs.writing.Sequence.tests.Given as goal

abbrev pub invariant-loop-s : goal.invariant-loop-s
invariant-loop-s l =
    Testing (meaning l.self.machine) l.self.word.now l.initial.buffer l.initial.p l.buffer
    l.p l.s
