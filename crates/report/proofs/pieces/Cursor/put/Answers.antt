use Rattle.std.proofs.Common.{refl}
use Rattle.sheet.specs.Writing.Laws.{put_puts}
use Rattle.report.proofs.pieces.Cursor.put.Goals as goal

pub returns : goal.returns
returns c =
    let start = c.args.self.now in
    let put = c.put-self.ensures in
    record {
      same_buffer = refl;
      puts = put_puts start.buffer.now start.end c.args.text.now c.requires put.buffer_after put.value;
    }
