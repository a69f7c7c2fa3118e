use Rattle.std.proofs.Common.{◌∙◌, rules}
use Rattle.sheet.specs.Check.Laws.{first_none, first_stops_with, first_goes_on, first_ends}
use Rattle.machine.specs.Causes.Separation.{cause6_rows}
use Rattle.machine.proofs.separation.separation.Goals as goal

pub loop-i-init : goal.loop-i-init
loop-i-init c = first_none _

pub returns-in_err-partner : goal.returns-in_err-partner
returns-in_err-partner c =
    first_stops_with _ (search rules) c.loop-i.invariant c.partner.ensures c.from_residual.ensures.1
    c.in_err-partner.was
    ∙ cause6_rows _ _ _ _ _ _

pub loop-i-preserved : goal.loop-i-preserved
loop-i-preserved c = first_goes_on _ _ c.loop-i.invariant c.partner.ensures c.in_ok-partner.was

pub returns : goal.returns
returns c = first_ends _ (search rules) c.loop-i-test.false c.loop-i.invariant ∙ cause6_rows _ _ _ _ _ _
