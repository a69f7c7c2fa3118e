use Rattle.std.proofs.Common.{refl}
use Rattle.certify.specs.Propagation.{Equalised}
use Rattle.certify.proofs.propagation.equalise.Goals as goal

pub returns-then-marks-representative-eq0 : goal.returns-then-marks-representative-eq0
returns-then-marks-representative-eq0 c =
    Equalised.first c.if-marks-representative.false refl c.restart.ensures

pub returns : goal.returns
returns c = Equalised.second c.if-marks-representative.false refl c.restart-2.ensures
