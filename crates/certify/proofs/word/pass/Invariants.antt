use Rattle.certify.specs.Word.{Passed}
use Rattle.certify.proofs.word.pass.Given as goal

abbrev pub invariant-loop-p : goal.invariant-loop-p
invariant-loop-p l = Passed l.xs l.further l.c l.p l.initial.marks l.marks
