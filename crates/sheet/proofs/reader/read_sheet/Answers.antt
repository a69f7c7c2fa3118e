use Rattle.std.proofs.Common.{Bool, refl, sym, ap, ◌∙◌, length}
use Rattle.sheet.specs.Check.{refusal◌with◌if◌}
use Rattle.sheet.specs.Check.Laws.{goes_on, stops_at}
use Rattle.sheet.specs.Format.{standard}
use Rattle.sheet.specs.Format.Laws.{records_same}
use Rattle.sheet.specs.Reader.{lacks_needed, whole_cause}
use Rattle.sheet.specs.Reader.Laws.{checks_found, reading_same, reading_clear, reading_refused, records_refused}
use Rattle.sheet.proofs.reader.read_sheet.Goals as goal

pub returns-in-Ok : goal.returns-in-Ok
returns-in-Ok c =
    let args = c.args in
    let read = reading_clear standard args.sheet.now (sym c.read_whole.ensures ∙ c.in-Ok.is) in
    reading_same
    (c.missing_check.ensures
    ∙ ap (λ (b : Bool). refusal 2 with length args.sheet.now if b)
    (c.lacks_needed.ensures ∙ ap (lacks_needed args.needs) read.1)
    ∙ goes_on (whole_cause standard args.sheet.now) _ refl refl read.0
    ∙ checks_found standard args.needs args.sheet.now)
    read.1

pub returns-in-Err : goal.returns-in-Err
returns-in-Err c =
    let args = c.args in
    let read = reading_refused standard args.sheet.now (sym c.read_whole.ensures ∙ c.in-Err.is) in
    let none = c.default.ensures in
    reading_same
    (sym read ∙ stops_at (whole_cause standard args.sheet.now) _ refl refl read
    ∙ checks_found standard args.needs args.sheet.now)
    (records_same none.0 none.1.0 none.1.1.0 none.1.1.1 ∙ sym (records_refused standard args.sheet.now read))
