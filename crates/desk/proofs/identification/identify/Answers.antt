use Rattle.std.proofs.Common.{◌≡◌, sym, ◌∙◌, arith}
use Rattle.machine.specs.Machine.{meaning}
use Rattle.machine.specs.Machine.Laws.{meaning_states}
use Rattle.desk.proofs.Identifying.{identifying_start, identifying_found, identifying_next, identifying_none}
use Rattle.desk.proofs.identification.identify.Goals as goal

pub loop-s-init : goal.loop-s-init
loop-s-init c = identifying_start (meaning c.args.m.now) c.args.w.now c.args.ys.now

pub returns-in-Some : goal.returns-in-Some
returns-in-Some c =
    let m = c.args.m.now in
    rw (← c.in-Some.is)
    (identifying_found (meaning m) c.args.w.now c.args.ys.now c.loop-s.invariant c.follow.ensures
    (rw (meaning_states m) c.loop-s-test.true) c.in-Some.is)

pub loop-s-preserved : goal.loop-s-preserved
loop-s-preserved c =
    identifying_next (meaning c.args.m.now) c.args.w.now c.args.ys.now c.loop-s.invariant c.follow.ensures c.in_default.is

pub returns : goal.returns
returns c =
    let m = c.args.m.now in
    let all : c.loop-s.s ≡ m.n = omega (arith, c.loop-s-test.false) in
    identifying_none (meaning m) c.args.w.now c.args.ys.now c.loop-s.invariant (all ∙ sym (meaning_states m))
