use Rattle.std.proofs.Common.{rules}
use mathlib.Core.List.{flat_map}
use Rattle.machine.proofs.HouseTable.{packed_table, house_inside, house_command, house_state}
use Rattle.machine.proofs.house.house_entry.Goals as goal
use Rattle.machine.proofs.house.house_entry.Goals.{then-state-gt3-via-then-state-gt3}
use Rattle.machine.proofs.house.house_entry.Goals.{then-state-gt3-via-else-state-gt3+then-command-gt3}

pub returns-then-state-gt3 : goal.returns-then-state-gt3
returns-then-state-gt3 c = elim c.then-state-gt3.branch [
  | then-state-gt3-via-then-state-gt3 w ↦ house_state _ _ w.if-state-gt3.true
  | then-state-gt3-via-else-state-gt3+then-command-gt3 w ↦ house_command _ _ w.if-command-gt3.true
]

pub returns : goal.returns
unfolding packed_table flat_map
returns c =
    let args = c.args in house_inside args.state args.command (search rules) (search rules)
