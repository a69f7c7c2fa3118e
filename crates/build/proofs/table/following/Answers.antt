use Rattle.std.proofs.Common.{sym}
use Rattle.build.specs.Sequence.Cycle.{following_last, following_next}
use Rattle.build.proofs.table.following.Goals as goal

pub returns-then-t-n : goal.returns-then-t-n
returns-then-t-n c = sym (following_last _ _ c.if-t-n.true)

pub returns : goal.returns
returns c = sym (following_next _ _ c.if-t-n.false)
