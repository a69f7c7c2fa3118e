use Rattle.std.proofs.Common.{sym, ◌∙◌}
use Rattle.sheet.specs.Format.{◌or◌}
use Rattle.sheet.specs.Format.Laws.{or_missing, records_same, with_role}
use Rattle.sheet.proofs.record.with_record.Goals as goal

pub returns-in-Unknown : goal.returns-in-Unknown
returns-in-Unknown c =
    records_same (sym (or_missing _)) (sym (or_missing _)) (sym (or_missing _)) (sym (or_missing _))
    ∙ with_role c.args.found c.args.r (sym c.in-Unknown.is ∙ c.from.ensures)

pub returns-in-Machine : goal.returns-in-Machine
unfolding ◌or◌
returns-in-Machine c =
    records_same c.or.ensures (sym (or_missing _)) (sym (or_missing _)) (sym (or_missing _))
    ∙ with_role c.args.found c.args.r (sym c.in-Machine.is ∙ c.from.ensures)

pub returns-in-Word : goal.returns-in-Word
unfolding ◌or◌
returns-in-Word c =
    records_same (sym (or_missing _)) c.or-in-Word.ensures (sym (or_missing _)) (sym (or_missing _))
    ∙ with_role c.args.found c.args.r (sym c.in-Word.is ∙ c.from.ensures)

pub returns-in-Sequence : goal.returns-in-Sequence
unfolding ◌or◌
returns-in-Sequence c =
    records_same (sym (or_missing _)) (sym (or_missing _)) c.or-in-Sequence.ensures (sym (or_missing _))
    ∙ with_role c.args.found c.args.r (sym c.in-Sequence.is ∙ c.from.ensures)

pub returns-in-Answers : goal.returns-in-Answers
unfolding ◌or◌
returns-in-Answers c =
    records_same (sym (or_missing _)) (sym (or_missing _)) (sym (or_missing _)) c.or-in-Answers.ensures
    ∙ with_role c.args.found c.args.r (sym c.in-Answers.is ∙ c.from.ensures)
