use Rattle.std.proofs.Common.{refl}
use Rattle.report.specs.Dialogue.{input_ended}
use Rattle.report.proofs.Making.{writes_error}
use Rattle.report.proofs.dialogue.input_ended.Goals as goal

pub returns : goal.returns
unfolding input_ended
returns c = writes_error _ refl c.to_error.ensures c.stop_line.ensures
