use Rattle.certify.proofs.Merging.{back_required, merges_back, merges_on}
use Rattle.certify.proofs.chains.Tables.merge.Goals as goal

pub propagate-steps-requires : goal.propagate-steps-requires
propagate-steps-requires c = back_required c.requires c.if-marks-cur.false

pub returns-then-marks-cur-eq0 : goal.returns-then-marks-cur-eq0
returns-then-marks-cur-eq0 c =
    merges_back c.requires c.if-marks-cur.false c.if-marks-cur-eq0.true c.propagate-steps.ensures

pub returns : goal.returns
returns c = merges_on c.requires c.if-marks-cur.false c.if-marks-cur-eq0.false
