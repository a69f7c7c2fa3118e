use Rattle.std.proofs.Common.{arith, refl, sym}
use Rattle.machine.specs.Machine.{meaning}
use Rattle.machine.specs.Machine.Laws.{meaning_start}
use Rattle.judge.proofs.Comparing.{compared_start, compared_differs, compared_next, compared_passed}
use Rattle.judge.proofs.comparison.compare.Goals as goal

pub loop-i-init : goal.loop-i-init
loop-i-init c = compared_start (meaning c.args.m.now) _ _ (sym (meaning_start c.args.m.now))

pub returns-then-specified-given : goal.returns-then-specified-given
returns-then-specified-given c =
    compared_differs (meaning c.args.m.now) _ _ c.requires c.loop-i.invariant c.loop-i-test.true
    c.answer_to-specified.ensures refl c.if-specified-given.true c.difference.ensures

pub loop-i-preserved : goal.loop-i-preserved
loop-i-preserved c =
    compared_next (meaning c.args.m.now) _ _ c.requires c.loop-i.invariant c.loop-i-test.true
    c.answer_to-specified.ensures refl c.if-specified-given.false c.next_state-s.ensures

pub returns : goal.returns
returns c =
    compared_passed (meaning c.args.m.now) _ _ c.requires c.loop-i.invariant c.loop-i-test.false (omega arith)
