use Rattle.std.proofs.Common.{arith, refl}
use Rattle.sheet.specs.Check.{first_cause}
use Rattle.writer.specs.Parts.{parts_of, sheet_of}
use Rattle.writer.specs.Writer.{part_causes}
use Rattle.writer.specs.Writer.Laws.{clear_formed, formed_short}
use Rattle.report.proofs.Making.{promised}
use Rattle.report.proofs.sheets.write_sheet.Goals as goal

pub returns : goal.returns
returns c =
    let args = c.args in
    let p = parts_of args.machine.now args.word.now args.sequence.now args.answers.now in
    promised {c = first_cause (part_causes args.wanted p)} {xs = sheet_of args.wanted p} _ refl
    c.write-answer.ensures
    (λ e. omega (arith, formed_short p args.wanted (clear_formed args.wanted p e))) c.to_streams.ensures
