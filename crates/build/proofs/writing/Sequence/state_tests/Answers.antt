use Rattle.std.proofs.Common.{sym}
use Rattle.facts.specs.Numbers.{below_same, not_below_same}
use Rattle.machine.specs.Machine.Laws.{meaning_commands}
use Rattle.build.proofs.Parts.{testing_state_start, testing_state_required, testing_state_on}
use Rattle.build.proofs.Parts.{testing_state_end}
use Rattle.build.proofs.writing.Sequence.state_tests.Goals as goal

pub loop-c-init : goal.loop-c-init
loop-c-init c = testing_state_start c.args.self.now.ready c.requires.s_bound c.requires.part_requires

pub test-p-requires : goal.test-p-requires
test-p-requires c =
    let cl = below_same (sym (meaning_commands c.args.self.now.machine)) c.loop-c-test.true in record {
      part_requires = testing_state_required c.args.self.now.ready c.requires.s_bound c.loop-c.invariant cl;
      s_bound = c.requires.s_bound;
      c_bound = cl;
    }

pub loop-c-preserved : goal.loop-c-preserved
loop-c-preserved c =
    let cl = below_same (sym (meaning_commands c.args.self.now.machine)) c.loop-c-test.true in
    testing_state_on c.args.self.now.ready c.requires.s_bound c.loop-c.invariant cl c.test-p.ensures

pub returns : goal.returns
returns c =
    testing_state_end c.args.self.now.ready c.requires.s_bound c.loop-c.invariant
    (not_below_same (sym (meaning_commands c.args.self.now.machine)) c.loop-c-test.false)
