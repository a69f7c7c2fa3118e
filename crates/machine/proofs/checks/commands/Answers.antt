use Rattle.std.proofs.Common.{sym, ◌∙◌}
use Rattle.sheet.specs.Check.Laws.{goes_on, stops_with}
use Rattle.machine.specs.Causes.Laws.{commands_cause_is}
use Rattle.machine.proofs.LoadChecks.{length_is, below_clear}
use Rattle.machine.proofs.checks.commands.Goals as goal

pub returns-in_err-refuse : goal.returns-in_err-refuse
returns-in_err-refuse c =
    let args = c.args in
    stops_with _ _ c.from_residual.ensures.1 (sym (commands_cause_is args.number args.most args.k args.at args.w.now))
    (length_is args.number args.most args.at args.w.now c.outside.ensures c.refuse.ensures) c.in_err-refuse.was

pub returns-then-all_below : goal.returns-then-all_below
returns-then-all_below c =
    let args = c.args in
    sym (below_clear args.number _ args.k args.w.now (c.all_below.ensures c.if-all_below.true))
    ∙ goes_on _ _ (sym (commands_cause_is args.number args.most args.k args.at args.w.now))
    (length_is args.number args.most args.at args.w.now c.outside.ensures c.refuse.ensures) c.in_ok-refuse.was

pub returns : goal.returns
returns c =
    let args = c.args in
    c.scan.ensures
    ∙ goes_on _ _ (sym (commands_cause_is args.number args.most args.k args.at args.w.now))
    (length_is args.number args.most args.at args.w.now c.outside.ensures c.refuse.ensures) c.in_ok-refuse.was
