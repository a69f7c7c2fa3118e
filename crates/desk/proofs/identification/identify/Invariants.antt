use Rattle.std.proofs.Common.{◌≡◌}
use mathlib.Core.Option.{none}
use Rattle.machine.specs.Machine.{meaning}
use Rattle.desk.specs.Desk.{first_state}
use Rattle.desk.proofs.identification.identify.Given as goal

abbrev pub invariant-loop-s : goal.invariant-loop-s
invariant-loop-s l = first_state (meaning l.m) l.w l.ys l.s ≡ none
