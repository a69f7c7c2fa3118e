use Rattle.std.proofs.Common.{arith, refl, sym, ◌∙◌, ext_get_or, rules}
use Rattle.machine.specs.House.{house_payload}
use Rattle.machine.specs.House.Laws.{payload_long}
use Rattle.machine.proofs.HouseTable.{payload_starts}
use Rattle.machine.proofs.house.house_payload.Goals as goal

pub loop-at-init : goal.loop-at-init
loop-at-init c = (search rules, refl, λ j l. payload_starts j (omega arith))

pub returns : goal.returns
returns c =
    let head = c.loop-at in
    ext_get_or 0 head.payload house_payload (head.invariant.1 ∙ sym payload_long)
    (λ j l. head.invariant.2 j (omega arith))
