use Rattle.std.proofs.Common.{◌≡◌}
use Rattle.sheet.specs.Check.{first, Clear}
use Rattle.certify.specs.Certification.Program.{unknown_at}
use Rattle.certify.proofs.tally.least_unknown.Given as goal

abbrev pub invariant-loop-e : goal.invariant-loop-e
invariant-loop-e l = first l.e (unknown_at l.known) ≡ Clear
