use Rattle.std.proofs.Common.{refl}
use Rattle.report.proofs.Making.{writes_error}
use Rattle.report.proofs.lines.refused.Goals as goal

pub returns : goal.returns
returns c = writes_error _ refl (cc) c.refusal_line.ensures
