use Rattle.std.proofs.Common.{◌<◌, refl, rules}
use Rattle.sheet.specs.Reader.Laws.{word_read}
use Rattle.desk.proofs.Beginning.{end_small, starts}
use Rattle.desk.proofs.starting.start.Goals as goal

pub overflow_cast-desk : goal.overflow_cast-desk
overflow_cast-desk c =
    let small : c.put-end.result < 256 = end_small _ _ c.put-end.ensures.value refl in
    search rules

pub returns : goal.returns
returns c =
    starts c.args.sheet.now c.load_connected-loaded.result c.load_connected-loaded.ensures _ c.payload.result.now refl
    (word_read c.args.sheet c.payload.result c.load_connected-loaded.ensures.records c.payload.ensures) _
    c.put-end.ensures.buffer_after _ c.put-end.ensures.value _ _ c.byte-command.ensures c.and.ensures
