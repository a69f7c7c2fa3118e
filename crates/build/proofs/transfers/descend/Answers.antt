use Rattle.std.proofs.Common.{rules}
use Rattle.machine.specs.Machine.{tabled}
use Rattle.build.proofs.Descending.{descending_on, descending_stops, descending_all}
use Rattle.build.proofs.transfers.descend.Goals as goal

pub returns-in_err-c : goal.returns-in_err-c
returns-in_err-c c =
    rw c.from_residual.ensures (descending_stops c.loop-i-test.true c.loop-i.invariant.descending c.in_err-c.ensures)

pub loop-i-preserved : goal.loop-i-preserved
unfolding tabled
loop-i-preserved c = record {
  sized = c.loop-i.invariant.sized;
  descending = descending_on (search rules) c.loop-i-test.true
      c.loop-i.invariant.descending c.in_ok-c.ensures
      c.next_state-s.ensures;
}

pub returns : goal.returns
returns c =
    rw c.loop-i.invariant.sized (descending_all c.loop-i.invariant.descending c.loop-i-test.false)
