use Rattle.std.proofs.Common.{◌+◌, ◌<◌, sym, arith}
use Rattle.facts.specs.Numbers.{below_same}
use Rattle.machine.specs.Machine.Laws.{meaning_states, meaning_start}
use Rattle.build.proofs.Parts.{opening_start, opening_low, opening_required, opening_on, opening_end}
use Rattle.build.proofs.writing.Sequence.opening.Goals as goal

pub loop-i-init : goal.loop-i-init
loop-i-init c = opening_start c.args.self.now.ready (sym (meaning_start c.args.self.now.machine))

pub block-at-requires : goal.block-at-requires
block-at-requires c =
    opening_required c.args.self.now.ready c.loop-i.invariant (sym (meaning_states c.args.self.now.machine))
    c.loop-i-test.true

pub following-present-requires : goal.following-present-requires
following-present-requires c =
    below_same (meaning_states c.args.self.now.machine) (opening_low c.args.self.now.ready c.loop-i.invariant)

pub loop-i-preserved : goal.loop-i-preserved
loop-i-preserved c =
    opening_on c.args.self.now.ready c.loop-i.invariant (sym (meaning_states c.args.self.now.machine))
    (omega arith) c.block-at.ensures c.following-present.ensures

pub returns-2 : goal.returns-2
returns-2 c =
    let last : c.args.self.now.machine.n < c.loop-i._i + 1 = omega arith in
    opening_end c.args.self.now.ready
    (opening_on c.args.self.now.ready c.loop-i.invariant (sym (meaning_states c.args.self.now.machine))
    (omega arith) c.block-at.ensures c.following-present.ensures)
    (sym (meaning_states c.args.self.now.machine)) last
