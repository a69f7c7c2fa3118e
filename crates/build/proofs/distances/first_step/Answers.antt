use Rattle.std.proofs.Common.{◌≡◌, get_or, Some, None, sym, ◌∙◌, rules}
use Rattle.machine.specs.Machine.{tabled}
use Rattle.build.proofs.Searching.{passing_on, passing_found, not_reached}
use Rattle.build.proofs.distances.first_step.Goals as goal

pub returns-then-eq : goal.returns-then-eq
unfolding tabled
returns-then-eq c =
    let t : get_or c.args.distance.now c.next_state-t.result None ≡ Some c.args.d = search rules in (
      c.loop-c-test.true,
      passing_found c.args.m.now.next c.args.m.now.k c.args.distance.now c.args.s c.args.d c.loop-c-test.true
          c.loop-c.invariant c.next_state-t.ensures (search rules) t,
    )

pub loop-c-preserved : goal.loop-c-preserved
unfolding tabled
loop-c-preserved c =
    passing_on c.args.m.now.next c.args.m.now.k c.args.distance.now c.args.s c.args.d
    c.loop-c.invariant c.next_state-t.ensures (not_reached _ (sym c.eq.ensures ∙ c.if-eq.false))
