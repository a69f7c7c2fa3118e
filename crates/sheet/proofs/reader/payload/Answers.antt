use Rattle.std.proofs.Common.{add_comm}
use native.Mathlib.Nat.{add-sub_cancel_left}
use Rattle.sheet.specs.Reader.{handed, part_bytes}
use Rattle.sheet.proofs.reader.payload.Goals as goal

pub returns : goal.returns
unfolding handed part_bytes
returns c = rw (add_comm, add-sub_cancel_left, c.part_within-from.ensures.value)
