use Rattle.std.proofs.Common.{◌≤◌, ◌≡◌, drop}
use Rattle.facts.specs.Decimal.{number_in}
use Rattle.report.proofs.Reading.{number_from}
use Rattle.report.proofs.numbers.number_in.Given as goal

abbrev pub invariant-loop-byte : goal.invariant-loop-byte
invariant-loop-byte l =
    (l.value ≤ l.most) × (number_from l.most l.value (drop l.byte-index l.text) ≡ number_in l.most l.text)
