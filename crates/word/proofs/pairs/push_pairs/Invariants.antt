use Rattle.std.proofs.Common.{◌≡◌, ◌++◌}
use Rattle.word.specs.Search.{pairs_with}
use Rattle.word.proofs.pairs.push_pairs.Given as goal

abbrev pub invariant-loop-i : goal.invariant-loop-i
invariant-loop-i l = l.pairs.items ≡ l.initial.pairs.items ++ pairs_with l.j l.i
