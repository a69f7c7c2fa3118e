use Rattle.sheet.proofs.Within.{part_held, part_cut, part_none}
use Rattle.sheet.proofs.reader.part_within.Goals as goal

pub returns-in_default-clause-value : goal.returns-in_default-clause-value
returns-in_default-clause-value c = part_none _ c.in_default.is

pub returns-then-sheet-from-clause-value : goal.returns-then-sheet-from-clause-value
returns-then-sheet-from-clause-value c = part_cut _ c.in-Some.is c.if-sheet-from.true

pub returns-clause-value : goal.returns-clause-value
returns-clause-value c = part_held _ c.in-Some.is c.if-sheet-from.false
