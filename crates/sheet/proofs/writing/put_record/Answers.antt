use Rattle.std.proofs.Common.{arith}
use Rattle.sheet.specs.Writing.Laws.{record_size}
use Rattle.sheet.proofs.Copying.{record_put_lem, record_not_put}
use Rattle.sheet.proofs.writing.put_record.Goals as goal
use Rattle.sheet.proofs.writing.put_record.Goals.{then-size-gt-MOST_PAYLOAD-via-then-size-gt-MOST_PAYLOAD}
use Rattle.sheet.proofs.writing.put_record.Goals.{then-size-gt-MOST_PAYLOAD-via-else-size-gt-MOST_PAYLOAD+then-buffer-at}
use Rattle.sheet.proofs.writing.put_record.Goals.{then-size-gt-MOST_PAYLOAD-via-else-size-gt-MOST_PAYLOAD+else-buffer-at+then-buffer-at-2}

pub returns-then-size-gt-MOST_PAYLOAD : goal.returns-then-size-gt-MOST_PAYLOAD
returns-then-size-gt-MOST_PAYLOAD c =
    let args = c.args in
    let size = record_size args.kind args.payload.now in
    let kept = record_not_put args.buffer.now args.at args.kind args.payload.now
    (λ held. elim c.then-size-gt-MOST_PAYLOAD.branch [
      | then-size-gt-MOST_PAYLOAD-via-then-size-gt-MOST_PAYLOAD w ↦ omega arith
      | then-size-gt-MOST_PAYLOAD-via-else-size-gt-MOST_PAYLOAD+then-buffer-at w ↦ omega arith
      | then-size-gt-MOST_PAYLOAD-via-else-size-gt-MOST_PAYLOAD+else-buffer-at+then-buffer-at-2 w ↦ omega arith
    ]) in
    record { buffer_after = kept.0; value = kept.1 }

pub returns : goal.returns
returns c =
    let args = c.args in
    let size = record_size args.kind args.payload.now in
    let put = record_put_lem args.buffer.now args.at args.kind args.payload.now (omega arith) (omega arith)
    c.header_of-header.ensures (c.put-next.ensures.buffer_after, c.put-next.ensures.value)
    (c.put.ensures.buffer_after, c.put.ensures.value) in
    record { buffer_after = put.0; value = put.1 }
