use Rattle.std.proofs.Common.{arith, refl}
use Rattle.certify.specs.Propagation.{Restarted}
use Rattle.certify.proofs.propagation.restart.Goals as goal

pub returns : goal.returns
returns c =
    let cell = rw c.from.ensures at c.from-2.ensures in
    Restarted.from _ (omega (arith, cell, c.in_ok-representative.ensures)) refl
