use Rattle.sheet.specs.Promise.{cause9}
use Rattle.sheet.proofs.writing.room_check.Goals as goal

pub returns : goal.returns
unfolding cause9
returns c = c.refuse.ensures
