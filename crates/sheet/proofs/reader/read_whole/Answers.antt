use Rattle.std.proofs.Common.{ltb-false, sym, ◌∙◌}
use Rattle.sheet.specs.Check.Laws.{clear_absent, hands_on, refusal_stays}
use Rattle.sheet.specs.Format.{standard, longest, parsed}
use Rattle.sheet.proofs.reader.read_whole.Goals as goal

pub returns-in_err-too_long : goal.returns-in_err-too_long
returns-in_err-too_long c =
    let long = refusal_stays (parsed standard c.args.sheet.now).stop (sym c.too_long.ensures ∙ c.in_err-too_long.was) in
    hands_on _ c.from_residual.ensures.1 ∙ (rw long)

pub parse-requires : goal.parse-requires
parse-requires c = ltb-false _ _ (clear_absent 1 longest _ (sym c.too_long.ensures ∙ c.in_ok-too_long.was))
