use Rattle.std.proofs.Common.{sym}
use Rattle.facts.specs.Numbers.{below_same, not_below_same}
use Rattle.machine.specs.Machine.Laws.{meaning_states}
use Rattle.build.proofs.Parts.{testing_start, testing_required, testing_on, testing_end}
use Rattle.build.proofs.writing.Sequence.tests.Goals as goal

pub loop-s-init : goal.loop-s-init
loop-s-init c = testing_start c.args.self.now.ready c.requires

pub state_tests-p-requires : goal.state_tests-p-requires
state_tests-p-requires c =
    let sl = below_same (sym (meaning_states c.args.self.now.machine)) c.loop-s-test.true in record {
      part_requires = testing_required c.args.self.now.ready c.loop-s.invariant sl;
      s_bound = sl;
    }

pub loop-s-preserved : goal.loop-s-preserved
loop-s-preserved c =
    let sl = below_same (sym (meaning_states c.args.self.now.machine)) c.loop-s-test.true in
    testing_on c.args.self.now.ready c.loop-s.invariant sl c.state_tests-p.ensures

pub returns : goal.returns
returns c =
    testing_end c.args.self.now.ready c.loop-s.invariant
    (not_below_same (sym (meaning_states c.args.self.now.machine)) c.loop-s-test.false)
