use Rattle.std.proofs.Common.{◌≡◌}
use Rattle.build.proofs.Descending.{Descending}
use Rattle.build.proofs.transfers.descend.Given as goal

abbrev pub invariant-loop-i : goal.invariant-loop-i
invariant-loop-i l =
    record {
      sized : l.path.length ≡ l.length;
      descending : Descending l.m.next l.m.k l.distance l.from l.length l.path.commands l.s l.i;
    }
