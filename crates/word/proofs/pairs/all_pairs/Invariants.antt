use Rattle.std.proofs.Common.{◌≡◌}
use Rattle.word.specs.Search.{all_pairs}
use Rattle.word.proofs.pairs.all_pairs.Given as goal

abbrev pub invariant-loop-j : goal.invariant-loop-j
invariant-loop-j l = l.pairs.items ≡ all_pairs l.j
