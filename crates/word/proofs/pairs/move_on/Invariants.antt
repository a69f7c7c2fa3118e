use Rattle.word.proofs.Moving.{Moving}
use Rattle.word.proofs.pairs.move_on.Given as goal

abbrev pub invariant-loop-p : goal.invariant-loop-p
invariant-loop-p l = Moving l.m.k l.m.next l.m.answer l.pairs l.c l.left.items l.p-index
