use Rattle.std.proofs.Common.{◌+◌, ◌<◌, ◌≤◌, refl, sym, ◌∙◌, arith, length}
use Rattle.std.proofs.lemmas.Slice.{put_mid-paste}
use Rattle.sheet.specs.Writing.Laws.{put_fits, end_fits, put_not, end_not}
use Rattle.sheet.proofs.writing.put.Goals as goal
use Rattle.sheet.proofs.writing.put.Goals.{then-buffer-at-via-then-buffer-at}
use Rattle.sheet.proofs.writing.put.Goals.{then-buffer-at-via-else-buffer-at+then-buffer-at-2}

pub returns-then-buffer-at : goal.returns-then-buffer-at
returns-then-buffer-at c =
    let bytes = c.args.bytes.now in
    let at = c.args.at in
    let buffer = c.args.buffer.now in
    let over : length buffer < at + length bytes = elim c.then-buffer-at.branch [
      | then-buffer-at-via-then-buffer-at w ↦ omega arith
      | then-buffer-at-via-else-buffer-at+then-buffer-at-2 w ↦ omega arith
    ] in
    record { buffer_after = sym (put_not buffer at bytes over); value = sym (end_not buffer at bytes over) }

pub returns : goal.returns
returns c =
    let bytes = c.args.bytes.now in
    let at = c.args.at in
    let buffer = c.args.buffer.now in
    let fits : at + length bytes ≤ length buffer = omega arith in
    record {
      buffer_after = put_mid-paste at _ buffer _ bytes (length bytes) c.copy_from_slice.ensures.after (omega arith) refl
          ∙ sym (put_fits buffer at bytes fits);
      value = sym (end_fits buffer at bytes fits);
    }
