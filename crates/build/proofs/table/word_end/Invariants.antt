use Rattle.std.proofs.Common.{◌≡◌, drop}
use Rattle.machine.specs.Machine.{meaning, run}
use Rattle.build.proofs.table.word_end.Given as goal

abbrev pub invariant-loop-c : goal.invariant-loop-c
invariant-loop-c l = run (meaning l.m) l.t (drop l.c-index l.w) ≡ run (meaning l.m) l.s l.w
