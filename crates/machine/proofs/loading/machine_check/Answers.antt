use Rattle.std.proofs.Common.{ℕ, ap, ap₂, ◌∙◌, List}
use Rattle.sheet.specs.declared.parse.Reading.{Reading}
use Rattle.sheet.specs.Check.{first_cause}
use Rattle.sheet.specs.Check.Laws.{stops_with, goes_on}
use Rattle.sheet.specs.Format.{standard}
use Rattle.sheet.specs.Reader.Laws.{payload_content}
use Rattle.machine.specs.Causes.{table_causes}
use Rattle.machine.specs.Causes.Lists.{machine_causes_are}
use Rattle.machine.proofs.LoadChecks.{start_is}
use Rattle.machine.proofs.loading.machine_check.Goals as goal

pub returns-in_err-reading : goal.returns-in_err-reading
returns-in_err-reading c =
    stops_with _ _ c.from_residual.ensures.1 (machine_causes_are c.args.needs c.args.sheet.now)
    (ap (λ (r : Reading). r.check) c.requires) c.in_err-reading.was

pub returns : goal.returns
returns c =
    let s = c.args.sheet.now in
    c.table_check.ensures
    ∙ ap₂ (λ (x : ℕ) (y : List ℕ). first_cause (table_causes standard x y))
    (start_is standard.machine s (ap (λ (r : Reading). r.records.machine) c.requires) c.record_or.ensures)
    (payload_content standard _ c.args.sheet c.payload.result (ap (λ (r : Reading). r.records.machine) c.requires)
    c.payload.ensures)
    ∙ goes_on _ _ (machine_causes_are c.args.needs s) (ap (λ (r : Reading). r.check) c.requires) c.in_ok-reading.was
