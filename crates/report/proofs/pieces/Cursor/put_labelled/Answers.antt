use Rattle.report.proofs.Putting.{next_append}
use Rattle.report.proofs.pieces.Cursor.put_labelled.Goals as goal

pub returns-clause-next : goal.returns-clause-next
returns-clause-next c = next_append _ _ c.put.ensures c.put_decimal.ensures.next
