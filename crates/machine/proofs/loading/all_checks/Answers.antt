use Rattle.std.proofs.Common.{sym, ap, ap₂, ◌∙◌}
use Rattle.sheet.specs.declared.parse.Reading.{Reading}
use Rattle.sheet.specs.Check.{◌else◌}
use Rattle.sheet.specs.Check.Laws.{else_and, stops_with, goes_on}
use Rattle.sheet.specs.Format.{standard}
use Rattle.machine.specs.Causes.Lists.{load_causes_are}
use Rattle.machine.proofs.LoadChecks.{needed_required}
use Rattle.machine.proofs.loading.all_checks.Goals as goal

pub returns-in_err-machine_check : goal.returns-in_err-machine_check
returns-in_err-machine_check c =
    stops_with _ _ c.from_residual.ensures.1 (load_causes_are c.args.needs c.args.sheet.now) c.machine_check.ensures
    c.in_err-machine_check.was

pub needed_word-word-requires : goal.needed_word-word-requires
needed_word-word-requires c =
    needed_required c.args.needs c.args.sheet.now
    (sym c.machine_check.ensures ∙ c.in_ok-machine_check.was) c.requires.as_held
    standard.word (ap (λ (r : Reading). r.records.word) c.requires.as_read)

pub needed_sequence-sequence-requires : goal.needed_sequence-sequence-requires
needed_sequence-sequence-requires c =
    needed_required c.args.needs c.args.sheet.now
    (sym c.machine_check.ensures ∙ c.in_ok-machine_check.was)
    c.requires.as_held standard.sequence (ap (λ (r : Reading). r.records.sequence) c.requires.as_read)

pub returns : goal.returns
returns c =
    c.and.ensures
    ∙ else_and _ _
    ∙ ap₂ ◌else◌ c.needed_word-word.ensures c.needed_sequence-sequence.ensures
    ∙ goes_on _ _ (load_causes_are c.args.needs c.args.sheet.now) c.machine_check.ensures c.in_ok-machine_check.was
