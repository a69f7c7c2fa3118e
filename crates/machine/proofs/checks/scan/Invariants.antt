use Rattle.std.proofs.Common.{◌≡◌}
use Rattle.sheet.specs.Check.{first, Clear}
use Rattle.machine.specs.Causes.{byte_cause}
use Rattle.machine.proofs.checks.scan.Given as goal

abbrev pub invariant-loop-i : goal.invariant-loop-i
invariant-loop-i l = first l.i (byte_cause l.number l.base l.part l.from l.stride l.bound) ≡ Clear
