use Rattle.std.proofs.Common.{◌≡◌, drop}
use Rattle.word.specs.Searching.{none_alike}
use Rattle.word.proofs.pairs.told_apart.Given as goal

abbrev pub invariant-loop-p : goal.invariant-loop-p
invariant-loop-p l =
    none_alike l.m.k l.m.answer l.pairs l.c ≡ none_alike l.m.k l.m.answer (drop l.p-index l.pairs) l.c
