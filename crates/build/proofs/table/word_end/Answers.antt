use Rattle.machine.specs.Machine.{meaning}
use Rattle.build.proofs.WordEnd.{rest_on, rest_end}
use Rattle.build.proofs.table.word_end.Goals as goal

pub loop-c-preserved : goal.loop-c-preserved
loop-c-preserved c =
    rest_on (meaning c.args.m.now) c.args.w.now c.loop-c.c-index c.loop-c.t c.loop-c-test.true c.next_state-t.ensures
    c.loop-c.invariant

pub returns : goal.returns
returns c =
    rest_end (meaning c.args.m.now) c.args.w.now c.loop-c.c-index c.loop-c.t c.loop-c-test.false c.loop-c.invariant
