use Rattle.std.proofs.Common.{rules}
use Rattle.sheet.specs.Check.Laws.{first_none, first_stops_with, first_goes_on}
use Rattle.machine.specs.Causes.Laws.{byte_check_is}
use Rattle.machine.proofs.checks.scan.Goals as goal

pub loop-i-init : goal.loop-i-init
loop-i-init c = first_none _

pub returns-in_err-refuse : goal.returns-in_err-refuse
returns-in_err-refuse c =
    first_stops_with _ (search rules) c.loop-i.invariant
    (byte_check_is _ _ _ _ _ _ _ c.byte.ensures c.refuse.ensures)
    c.from_residual.ensures.1 c.in_err-refuse.was

pub loop-i-preserved : goal.loop-i-preserved
loop-i-preserved c =
    first_goes_on _ _ c.loop-i.invariant (byte_check_is _ _ _ _ _ _ _ c.byte.ensures c.refuse.ensures)
    c.in_ok-refuse.was
