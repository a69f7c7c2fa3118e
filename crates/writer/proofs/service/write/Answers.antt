use Rattle.sheet.specs.Check.Laws.{hands_on}
use Rattle.writer.proofs.Answering.{early_refused, short, nine_refused, fits, written}
use Rattle.writer.proofs.service.write.Goals as goal

pub returns-in_err-check : goal.returns-in_err-check
returns-in_err-check c =
    rw (hands_on _ c.from_residual.ensures.1)
    (early_refused c.args.wanted _ c.args.buffer.now c.check.ensures c.in_err-check.was)

pub length-requires : goal.length-requires
length-requires c = short c.args.wanted _ c.args.buffer.now c.check.ensures c.in_ok-check.was

pub returns-in_err-room_check : goal.returns-in_err-room_check
returns-in_err-room_check c =
    rw (hands_on _ c.from_residual-in_err-room_check.ensures.1)
    (nine_refused c.args.wanted _ c.args.buffer.now c.check.ensures c.in_ok-check.was c.length.ensures
    c.room_check.ensures c.in_err-room_check.was)

pub put-requires : goal.put-requires
put-requires c =
    record {
      short = short c.args.wanted _ c.args.buffer.now c.check.ensures c.in_ok-check.was;
      room = fits c.args.wanted _ c.args.buffer.now c.check.ensures c.in_ok-check.was c.length.ensures
          c.room_check.ensures c.in_ok-room_check.was;
    }

pub returns : goal.returns
returns c = written c.args.wanted _ c.args.buffer.now c.check.ensures c.in_ok-check.was c.put.ensures
