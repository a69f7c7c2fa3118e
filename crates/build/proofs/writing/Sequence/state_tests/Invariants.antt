use Rattle.machine.specs.Machine.{meaning}
use Rattle.build.proofs.Parts.{TestingState}
use Rattle.build.proofs.writing.Sequence.state_tests.Given as goal

abbrev pub invariant-loop-c : goal.invariant-loop-c
invariant-loop-c l =
    TestingState (meaning l.self.machine) l.self.word.now l.initial.buffer l.initial.p l.s
    l.buffer l.p l.c
