use Rattle.std.proofs.Common.{sym, ap, ◌∙◌}
use Rattle.sheet.specs.Format.{standard, role_of, of_role}
use Rattle.sheet.specs.declared.record.Records.{Records}
use Rattle.sheet.specs.Reader.Laws.{found_refused, found_by_kind, reading_clear, reading_refused}
use Rattle.sheet.proofs.reader.find.Goals as goal

pub returns-in-Ok : goal.returns-in-Ok
returns-in-Ok c =
    let kind = c.args.kind in
    let s = c.args.sheet.now in
    c.of_kind.ensures
    ∙ ap (λ (r : Records). of_role r (role_of standard kind))
    (reading_clear standard s (sym c.read_whole.ensures ∙ c.in-Ok.is)).1
    ∙ sym (found_by_kind kind s)

pub returns-in-Err : goal.returns-in-Err
returns-in-Err c =
    let s = c.args.sheet.now in
    sym (found_refused standard _ s (reading_refused standard s (sym c.read_whole.ensures ∙ c.in-Err.is)))
