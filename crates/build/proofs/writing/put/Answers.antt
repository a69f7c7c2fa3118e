use Rattle.std.proofs.Common.{refl, sym}
use Rattle.sheet.specs.Writing.Laws.{end_fits, put_puts}
use Rattle.build.proofs.writing.put.Goals as goal

pub returns : goal.returns
returns c =
    let args = c.args in
    record {
      ends = refl;
      puts = λ l.
          put_puts args.buffer.now args.at args.xs.now l c.put.ensures.buffer_after
          (sym (end_fits args.buffer.now args.at args.xs.now l));
    }
