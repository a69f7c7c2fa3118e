use Rattle.std.proofs.Common.{rules}
use Rattle.machine.proofs.Columns.{load_is}
use Rattle.machine.proofs.machine.Machine.load.Goals as goal

pub returns : goal.returns
returns c =
    load_is c.args.p.now c.column.result
    c.column-2.result _ _ c.byte.ensures c.byte-2.ensures
    (search rules) (search rules) c.column.ensures c.column-2.ensures
