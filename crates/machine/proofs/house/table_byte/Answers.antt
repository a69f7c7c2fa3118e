use Rattle.std.proofs.Common.{◌+◌, ◌/◌, rules}
use Rattle.sheet.specs.Format.{standard}
use Rattle.machine.proofs.HouseTable.{payload_next, payload_answer}
use Rattle.machine.proofs.house.table_byte.Goals as goal

pub returns-then-at-eq0 : goal.returns-then-at-eq0
returns-then-at-eq0 c =
    let at = c.args.at in
    payload_next (at / 2) (standard.table + at) (search rules) c.house_entry-entry.ensures (search rules)

pub returns : goal.returns
returns c =
    let at = c.args.at in
    payload_answer (at / 2) (standard.table + at) (search rules) c.house_entry-entry.ensures (search rules)
