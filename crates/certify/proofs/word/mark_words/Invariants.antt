use Rattle.certify.proofs.Words.{Written}
use Rattle.certify.proofs.word.mark_words.Given as goal

abbrev pub invariant-loop-j : goal.invariant-loop-j
invariant-loop-j l = Written l.w l.xs l.marks l.j
