use Rattle.std.proofs.Common.{rules}
use Rattle.build.proofs.Descending.{answer_none, answer_some}
use Rattle.build.proofs.transfers.transfer.Goals as goal

pub returns-in_err-length : goal.returns-in_err-length
returns-in_err-length c =
    let d = c.measure.ensures in
    rw c.from_residual.ensures (answer_none _ _ _ d.few (search rules) d.distances c.in_err-length.was)

pub returns : goal.returns
returns c =
    let d = c.measure.ensures in
    answer_some _ _ _ d.few (search rules) d.distances c.in_ok-length.was _ c.descend.ensures
