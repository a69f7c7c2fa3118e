use Rattle.sheet.specs.Check.Laws.{hands_on}
use Rattle.sheet.specs.Reader.Laws.{word_read}
use Rattle.build.proofs.Answering.{front_none, early_refused, write_required, nine_refused, built}
use Rattle.build.proofs.service.build_loaded.Goals as goal

pub returns-in_err-loaded : goal.returns-in_err-loaded
returns-in_err-loaded c =
    rw (hands_on _ c.from_residual.ensures.1)
    (early_refused c.args.sheet.now c.args.buffer.now c.args.loaded c.requires.loaded_by c.in_err-loaded.was)

pub invariant_of-sequence : goal.invariant_of-sequence
invariant_of-sequence c = record {
  ready = write_required c.args.sheet.now c.args.buffer.now c.args.loaded c.requires.loaded_by c.in_ok-loaded.was
      c.payload.result.now (word_read c.args.sheet c.payload.result c.requires.loaded_by.records c.payload.ensures) _
      (c.requires.filled c.in_ok-loaded.was);
}

pub returns-in_err-room_check : goal.returns-in_err-room_check
returns-in_err-room_check c =
    rw (hands_on _ c.from_residual-in_err-room_check.ensures.1)
    (nine_refused c.args.sheet.now c.args.buffer.now c.args.loaded c.requires.loaded_by c.in_ok-loaded.was
    c.payload.result.now (word_read c.args.sheet c.payload.result c.requires.loaded_by.records c.payload.ensures)
    c.write-length.ensures.ends (front_none c.write-length.new.buffer c.args.buffer.now c.write-length.auto.buffer)
    c.room_check.ensures c.in_err-room_check.was)

pub returns : goal.returns
returns c =
    built c.args.sheet.now c.args.buffer.now c.args.loaded c.requires.loaded_by c.in_ok-loaded.was
    c.payload.result.now (word_read c.args.sheet c.payload.result c.requires.loaded_by.records c.payload.ensures)
    c.write-length.ensures.ends (front_none c.write-length.new.buffer c.args.buffer.now c.write-length.auto.buffer)
    c.room_check.ensures c.in_ok-room_check.was c.write.ensures
