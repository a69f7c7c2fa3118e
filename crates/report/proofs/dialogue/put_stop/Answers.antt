use Rattle.report.proofs.Putting.{next_append}
use Rattle.report.proofs.dialogue.put_stop.Goals as goal

pub returns : goal.returns
returns c = next_append _ _ (next_append _ _ c.put.ensures c.put-2.ensures) c.put-3.ensures
