use Rattle.std.specs.Prelude.{◌≡◌, Bool, true, false, not, Option, Some, None, is_some, is_none}
use Rattle.sheet.specs.declared.record.Record.{Record}
use Rattle.std.proofs.Common.{[], ◌∷◌, refl, sym, ap, ◌∙◌, length}
use Rattle.sheet.specs.Check.{refusal◌with◌if◌}
use Rattle.sheet.specs.Check.Laws.{goes_on, stops_at, hands_on}
use Rattle.sheet.specs.declared.record.Records.{Records}
use Rattle.sheet.specs.Format.{standard, role_of, of_role}
use Rattle.sheet.specs.Reader.{whole_cause}
use Rattle.sheet.specs.Reader.Laws.{refusal_found, found_by_kind, reading_clear, reading_refused}
use Rattle.sheet.specs.Values.{values_of}
use Rattle.sheet.specs.Values.Laws.{returns_specified}
use Rattle.sheet.proofs.reader.refusal.Goals as goal

none_is : (o : Option Record) (b : Bool) → is_some o ≡ not b → b ≡ is_none o
none_is None true e = refl
none_is None false e = cc
none_is (Some r) true e = cc
none_is (Some r) false e = refl

pub returns-in_err-records : goal.returns-in_err-records
returns-in_err-records c =
    let s = c.args.sheet.now in
    let read = reading_refused standard s (sym c.read_whole.ensures ∙ c.in_err-records.was) in
    returns_specified values_of
    (hands_on _ c.from_residual.ensures.1 ∙ sym read ∙ stops_at (whole_cause standard s) _ refl refl read
    ∙ refusal_found standard (c.args.kind ∷ []) s)

pub returns : goal.returns
returns c =
    let args = c.args in
    let s = args.sheet.now in
    let read = reading_clear standard s (sym c.read_whole.ensures ∙ c.in_ok-records.was) in
    let found = c.of_kind.ensures ∙ ap (λ (r : Records). of_role r (role_of standard args.kind)) read.1
    ∙ sym (found_by_kind args.kind s) in
    returns_specified values_of
    (c.missing_check.ensures
    ∙ ap (λ (b : Bool). refusal 2 with length s if b) (none_is _ _ c.is_none.ensures ∙ ap is_none found)
    ∙ goes_on (whole_cause standard s) _ refl refl read.0
    ∙ refusal_found standard (args.kind ∷ []) s)
