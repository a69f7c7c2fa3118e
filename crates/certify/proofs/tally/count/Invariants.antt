use Rattle.std.proofs.Common.{ℕ, ◌≡◌, take, eqb, count_by}
use Rattle.certify.proofs.tally.count.Given as goal

abbrev pub invariant-loop-mark : goal.invariant-loop-mark
invariant-loop-mark l = l.n ≡ count_by (λ (m : ℕ). eqb m 1) (take l.mark-index l.marks)
