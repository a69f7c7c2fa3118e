use Rattle.std.proofs.Common.{lt-ltb, le-ltb}
use Rattle.sheet.specs.Format.{end, cause1}
use Rattle.sheet.proofs.record.cut.Goals as goal
use Rattle.sheet.proofs.record.cut.Goals.{then-bytes-body, else-bytes-body}

pub returns : goal.returns
unfolding end cause1
returns c = elim c.if-bytes-body.branch [
  | then-bytes-body w ↦ rw (c.refuse.ensures, w.refuse-is, lt-ltb _ _ w.if-bytes-body.true)
  | else-bytes-body w ↦ rw (c.refuse.ensures, w.refuse-is, le-ltb _ _ w.if-bytes-body.false)
]
