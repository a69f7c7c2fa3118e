use Rattle.std.proofs.Common.{arith, ap₂, ◌∙◌}
use Rattle.sheet.specs.Check.{◌else◌}
use Rattle.sheet.specs.Check.Laws.{else_and, goes_on, stops_with}
use Rattle.sheet.specs.Format.{standard}
use Rattle.machine.specs.Causes.Laws.{table_causes_are}
use Rattle.machine.proofs.LoadChecks.{four_is, twelve_is}
use Rattle.machine.proofs.checks.table_check.Goals as goal

pub returns-in_err-shape : goal.returns-in_err-shape
returns-in_err-shape c =
    stops_with _ _ c.from_residual.ensures.1 (table_causes_are standard c.args.at c.args.p.now) c.shape.ensures
    c.in_err-shape.was

pub returns : goal.returns
returns c =
    let at = c.args.at in
    let p = c.args.p.now in
    c.and.ensures
    ∙ else_and _ _
    ∙ ap₂ ◌else◌ (four_is at p c.byte.ensures c.scan_pairs-four.ensures)
    (twelve_is at p (λ i. omega (arith, c.shared_slice_known-1.given i)) c.scan_pairs-twelve.ensures)
    ∙ goes_on _ _ (table_causes_are standard at p) c.shape.ensures c.in_ok-shape.was
