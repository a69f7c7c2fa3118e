use Rattle.std.proofs.Common.{refl, ap, ◌∙◌, rules}
use Rattle.sheet.specs.Check.{Refused}
use Rattle.sheet.specs.Check.Laws.{first_stops, first_goes_on}
use Rattle.machine.specs.Causes.Separation.{low_clear, pair_present, pair_absent}
use Rattle.machine.proofs.separation.partner.Goals as goal

pub loop-j-init : goal.loop-j-init
loop-j-init c = low_clear _ _ _

pub returns-then-agree : goal.returns-then-agree
returns-then-agree c =
    first_stops _ (search rules) c.loop-j.invariant
    (ap (Refused 6) c.pair_place-place.ensures
    ∙ pair_present _ _ _ _ (search rules) c.agree.ensures c.if-agree.true) refl

pub loop-j-preserved : goal.loop-j-preserved
loop-j-preserved c =
    first_goes_on _ _ c.loop-j.invariant
    (pair_absent _ _ _ _ (search rules) c.agree.ensures c.if-agree.false) refl
