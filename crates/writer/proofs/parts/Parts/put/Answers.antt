use Rattle.writer.specs.Parts.{lent_parts}
use Rattle.writer.proofs.Rows.{done, more, puts_sheet}
use Rattle.writer.proofs.parts.Parts.put.Goals as goal

pub returns-in-Word : goal.returns-in-Word
returns-in-Word c =
    puts_sheet (lent_parts c.args.self.now) c.in-Word.is
    (c.requires.short, c.requires.room)
    (more (c.put_role-a.ensures.buffer_after, c.put_role-a.ensures.value)
    (more (c.put_role-b.ensures.buffer_after, c.put_role-b.ensures.value) done))

pub returns-in-Sequence : goal.returns-in-Sequence
returns-in-Sequence c =
    puts_sheet (lent_parts c.args.self.now) c.in-Sequence.is
    (c.requires.short, c.requires.room)
    (more (c.put_role-a.ensures.buffer_after, c.put_role-a.ensures.value)
    (more (c.put_role-b.ensures.buffer_after, c.put_role-b.ensures.value)
    (more (c.put_role.ensures.buffer_after, c.put_role.ensures.value) done)))

pub returns-in-Answers : goal.returns-in-Answers
returns-in-Answers c =
    puts_sheet (lent_parts c.args.self.now) c.in-Answers.is
    (c.requires.short, c.requires.room)
    (more (c.put_role-a.ensures.buffer_after, c.put_role-a.ensures.value)
    (more (c.put_role-b.ensures.buffer_after, c.put_role-b.ensures.value)
    (more (c.put_role-c.ensures.buffer_after, c.put_role-c.ensures.value)
    (more (c.put_role-in-Answers.ensures.buffer_after, c.put_role-in-Answers.ensures.value) done))))
