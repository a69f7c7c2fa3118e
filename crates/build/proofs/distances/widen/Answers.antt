use Rattle.std.proofs.Common.{arith, rules}
use Rattle.build.proofs.Rounds.{widening_on, widening_all}
use Rattle.build.proofs.distances.widen.Goals as goal

pub loop-s-preserved : goal.loop-s-preserved
loop-s-preserved c = widening_on (search rules) c.loop-s.invariant c.widened.ensures

pub returns : goal.returns
returns c = widening_all c.args.m.now (search rules) c.loop-s.invariant (omega (arith, c.loop-s-test.false))
