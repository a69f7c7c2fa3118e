use Rattle.std.proofs.Common.{sym, ◌∙◌}
use Rattle.machine.specs.Machine.{meaning}
use Rattle.writer.specs.Writer.Laws.{later_word, later_answers}
use Rattle.writer.proofs.parts.Parts.later_check.Goals as goal

pub returns-in-Word : goal.returns-in-Word
returns-in-Word c =
    let args = c.args in
    rw c.in-Word.is (sym (later_word (meaning args.m.now) args.at args.self.now.sequence.now args.self.now.answers.now))

pub returns-in-Answers : goal.returns-in-Answers
returns-in-Answers c = rw c.in-Answers.is (c.answers_check.ensures ∙ sym (later_answers _ _ _ _))
