use Rattle.std.proofs.Common.{◌≡◌}
use Rattle.machine.specs.Machine.{meaning}
use Rattle.certify.proofs.Loop.{Running}
use Rattle.certify.proofs.sweep.sweep.Given as goal

abbrev pub invariant-loop-t : goal.invariant-loop-t
invariant-loop-t l = record {
  same_xs : l.tables.xs.now ≡ l.xs;
  running :
      Running (meaning l.m) l.apply l.xs l.initial.marks l.initial.known l.marks l.known l.tables.alt l.tables.root l.cur
      l.t l.s l.p.changed;
}
