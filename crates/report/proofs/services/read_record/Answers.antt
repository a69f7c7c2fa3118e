use Rattle.std.proofs.Common.{arith, sym, ap, ◌∙◌, [], ◌∷◌, length}
use Rattle.sheet.specs.Reader.Laws.{handed_content}
use Rattle.sheet.specs.Reader.Bounds.{read_short}
use Rattle.report.specs.Output.Laws.{unless_clear}
use Rattle.sheet.specs.Writing.Laws.{puts_same}
use Rattle.report.proofs.Making.{writes_output}
use Rattle.sheet.specs.Format.{standard}
use Rattle.report.proofs.services.read_record.Goals as goal

pub print-requires : goal.print-requires
print-requires c =
    let clear = sym c.refusal.ensures.is ∙ c.in-Ok.is in
    let short = read_short (c.args.kind ∷ []) c.args.sheet.now clear in
    let handed = handed_content standard _ c.args.sheet c.read.result c.read.ensures in
    omega (arith, short, ap length handed)

pub returns-in-Ok : goal.returns-in-Ok
returns-in-Ok c =
    let clear = sym c.refusal.ensures.is ∙ c.in-Ok.is in
    let handed = handed_content standard _ c.args.sheet c.read.result c.read.ensures in
    writes_output _ (unless_clear _ clear) c.to_output.ensures (puts_same handed c.print.ensures)
