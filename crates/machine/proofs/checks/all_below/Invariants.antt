use Rattle.std.proofs.Common.{ℕ, ◌≡◌, ◌<◌, true, get_or}
use Rattle.machine.proofs.checks.all_below.Given as goal

abbrev pub invariant-loop-x : goal.invariant-loop-x
invariant-loop-x l = l.below ≡ true → (i : ℕ) → i < l.x-index → get_or l.bytes i 0 < l.bound
