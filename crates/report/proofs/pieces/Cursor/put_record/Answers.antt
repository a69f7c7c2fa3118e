use Rattle.std.proofs.Common.{arith, refl}
use Rattle.sheet.specs.Writing.Laws.{record_puts}
use Rattle.report.proofs.pieces.Cursor.put_record.Goals as goal

pub returns : goal.returns
returns c =
    let start = c.args.self.now in
    let put = c.put_record-self.ensures in
    record {
      same_buffer = refl;
      puts = record_puts start.buffer.now start.end c.args.kind c.args.payload.now (omega (arith, c.requires.short))
          c.requires.room (put.buffer_after, put.value);
    }
