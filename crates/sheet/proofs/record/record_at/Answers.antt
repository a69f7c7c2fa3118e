use Rattle.std.proofs.Common.{arith}
use Rattle.sheet.specs.Format.{record_at}
use Rattle.sheet.proofs.record.record_at.Goals as goal

pub returns : goal.returns
unfolding record_at
returns c = grind arith
