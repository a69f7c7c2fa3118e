use Rattle.std.proofs.Common.{ap, ◌∙◌}
use Rattle.sheet.specs.Format.{standard}
use Rattle.sheet.specs.Reader.{handed}
use Rattle.sheet.specs.Reader.Laws.{part_within_lem}
use Rattle.sheet.proofs.reader.read.Goals as goal

pub returns : goal.returns
returns c =
    c.payload.ensures
    ∙ ap (handed c.args.sheet) (part_within_lem standard _ _ c.find.ensures)
