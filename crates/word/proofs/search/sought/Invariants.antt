use Rattle.std.proofs.Common.{◌≡◌, ℕ, suc, ◌<◌}
use Rattle.std.proofs.Math.Option.{none}
use Rattle.word.proofs.Lengths.{of_length}
use Rattle.word.proofs.search.sought.Given as goal

abbrev pub invariant-loop-length : goal.invariant-loop-length
invariant-loop-length l = (i : ℕ) → suc i < l.length → of_length l.m (suc i) ≡ none
