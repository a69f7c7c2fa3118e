use Rattle.std.proofs.Common.{refl, ◌∙◌}
use Rattle.sheet.specs.Check.Laws.{goes_on, stops_with}
use Rattle.certify.proofs.tally.open_check.Goals as goal

pub returns-in_err-refuse : goal.returns-in_err-refuse
returns-in_err-refuse c = stops_with _ _ c.from_residual.ensures.1 refl c.refuse.ensures c.in_err-refuse.was

pub returns : goal.returns
returns c = c.least_unknown.ensures ∙ goes_on _ _ refl c.refuse.ensures c.in_ok-refuse.was
