use Rattle.std.proofs.Common.{◌+◌, ◌-◌, length}
use Rattle.machine.specs.Limits.{most_entries}
use Rattle.machine.specs.Machine.{meaning}
use Rattle.certify.specs.Marks.{mark, count}
use Rattle.certify.proofs.Settling.{Settling}
use Rattle.certify.proofs.closure.close.Given as goal

abbrev pub invariant-loop-changed : goal.invariant-loop-changed
invariant-loop-changed l =
    Settling (meaning l.m) l.xs l.initial.marks l.marks l.known l.apply l.changed

abbrev pub decreases-loop-changed : goal.decreases-loop-changed
decreases-loop-changed l =
    (length l.xs + 1 - count l.marks) + (most_entries - count l.known) + mark l.changed
