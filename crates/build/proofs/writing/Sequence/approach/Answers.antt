use Rattle.std.proofs.Common.{sym}
use Rattle.facts.specs.Numbers.{below_same}
use Rattle.machine.specs.Machine.Laws.{meaning_states}
use Rattle.build.proofs.Parts.{approaching_start, approaching_required, approaching_on}
use Rattle.build.proofs.Parts.{approaching_less, approaching_end}
use Rattle.build.proofs.writing.Sequence.approach.Goals as goal

pub loop-present-init : goal.loop-present-init
loop-present-init c = approaching_start c.args.self.now.ready c.requires.part_requires c.requires.s_bound

pub block-at-requires : goal.block-at-requires
block-at-requires c =
    approaching_required c.args.self.now.ready c.loop-present.invariant c.requires.s_bound c.loop-present-test.true

pub following-present-requires : goal.following-present-requires
following-present-requires c = below_same (meaning_states c.args.self.now.machine) c.loop-present.invariant.low

pub loop-present-smaller : goal.loop-present-smaller
loop-present-smaller c =
    approaching_less c.args.self.now.ready c.loop-present.invariant c.requires.s_bound c.loop-present-test.true
    (sym (meaning_states c.args.self.now.machine)) c.following-present.ensures

pub loop-present-preserved : goal.loop-present-preserved
loop-present-preserved c =
    approaching_on c.args.self.now.ready c.loop-present.invariant c.requires.s_bound c.loop-present-test.true
    (sym (meaning_states c.args.self.now.machine)) c.block-at.ensures c.following-present.ensures

pub returns : goal.returns
returns c =
    approaching_end c.args.self.now.ready c.loop-present.invariant c.requires.s_bound c.loop-present-test.false
