use Rattle.std.proofs.Common.{refl}
use Rattle.build.specs.Distances.{Widened}
use Rattle.build.proofs.Searching.{widened_reached}
use Rattle.build.proofs.distances.widened.Goals as goal

pub returns-in-Some : goal.returns-in-Some
returns-in-Some c = Widened.kept c.in-Some.is refl

pub returns : goal.returns
returns c =
    widened_reached c.in_ok-first_step.ensures.1 c.in_default.is c.in_ok-first_step.ensures.0
