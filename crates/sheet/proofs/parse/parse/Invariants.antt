use Rattle.std.proofs.Common.{◌-◌, length}
use Rattle.sheet.proofs.Parsing.{Head}
use Rattle.sheet.proofs.parse.parse.Given as goal

abbrev pub invariant-loop-at : goal.invariant-loop-at
invariant-loop-at l = Head l.s l.at l.last l.records

abbrev pub decreases-loop-at : goal.decreases-loop-at
decreases-loop-at l = length l.s - l.at
