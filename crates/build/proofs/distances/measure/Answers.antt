use Rattle.std.proofs.Common.{◌-◌, ◌≡◌, ◌∙◌, arith, rules}
use Rattle.build.proofs.Rounds.{distances_state, distances_none}
use Rattle.build.proofs.distances.measure.Goals as goal
use Rattle.build.proofs.distances.measure.Goals.{then-to-m, else-to-m}

pub loop-d-init : goal.loop-d-init
loop-d-init c = elim c.if-to-m.branch [
  | then-to-m w ↦ distances_state c.args.m.now c.args.to w.if-to-m.true (search rules) (rw c.requires at w.distance-is)
  | else-to-m w ↦ distances_none c.args.m.now c.args.to w.if-to-m.false (w.distance-is ∙ c.requires)
]

pub widen-requires : goal.widen-requires
widen-requires c = record { reachable = search rules; distance_len = c.loop-d.invariant.long }

pub loop-d-preserved : goal.loop-d-preserved
loop-d-preserved c = c.widen.ensures c.args.to c.loop-d.invariant

pub returns : goal.returns
returns c =
    let last : c.loop-d.d ≡ c.args.m.now.n - 1 = omega arith in
    record { few = search rules; distances = rw last at c.loop-d.invariant }
