use Rattle.std.proofs.Common.{refl, length, arith}
use Rattle.build.proofs.Rows.{row_stored}
use Rattle.build.proofs.table.store.Goals as goal

pub returns : goal.returns
returns c =
    row_stored c.args.rows.now c.args.commands.now c.args.s c.requires.s_lt_most_states c.requires.size_lt_row_size
    (omega arith) c.put.ensures.buffer_after
