use Rattle.std.proofs.Common.{arith, refl, sym, ◌∙◌}
use Rattle.sheet.specs.Check.Laws.{both_clear}
use Rattle.writer.specs.declared.wanted.Wanted.TheVariants.{Answers}
use Rattle.writer.specs.Parts.{with_answers}
use Rattle.writer.specs.Writer.Laws.{clear_formed, formed_short, answers_causes_are}
use Rattle.report.proofs.Making.{promised}
use Rattle.report.proofs.sheets.answers_sheet.Goals as goal

pub returns : goal.returns
returns c =
    let args = c.args in
    let sheet = args.sheet.now in
    let p = with_answers sheet args.answers.now in
    promised _ refl c.add_answers-answer.ensures
    (λ e. omega (
      arith,
      formed_short p Answers (clear_formed Answers p
          (both_clear _ _ (sym (answers_causes_are sheet args.answers.now) ∙ e)).1),
    )) c.to_streams.ensures
