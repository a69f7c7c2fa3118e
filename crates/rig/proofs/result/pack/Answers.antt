use Rattle.std.proofs.Common.{rules}
use Rattle.rig.specs.Result.{packed}
use Rattle.rig.proofs.result.pack.Goals as goal

pub returns : goal.returns
unfolding packed
returns c = search rules
