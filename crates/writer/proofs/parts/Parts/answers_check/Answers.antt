use Rattle.std.proofs.Common.{refl, ◌∙◌, length}
use Rattle.sheet.specs.Check.Laws.{goes_on, stops_with}
use Rattle.sheet.specs.Format.{offset}
use Rattle.machine.specs.Causes.Laws.{cause10_is}
use Rattle.writer.proofs.parts.Parts.answers_check.Goals as goal

pub returns-in_err-sequence_check : goal.returns-in_err-sequence_check
returns-in_err-sequence_check c =
    stops_with _ _ c.from_residual.ensures.1 refl c.sequence_check.ensures c.in_err-sequence_check.was

pub returns : goal.returns
returns c =
    let args = c.args in
    let parts = args.self.now in
    c.refuse.ensures
    ∙ cause10_is (offset args.at (length parts.sequence.now)) parts.sequence.now parts.answers.now
    ∙ goes_on _ _ refl c.sequence_check.ensures c.in_ok-sequence_check.was
