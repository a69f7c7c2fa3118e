use Rattle.std.proofs.Common.{◌∙◌}
use Rattle.sheet.specs.Format.{standard}
use Rattle.sheet.specs.Reader.Laws.{part_within_lem}
use Rattle.sheet.proofs.reader.part_of.Goals as goal

pub returns : goal.returns
returns c = record {
  value = c.part_within.ensures.value ∙ part_within_lem standard _ _ c.find.ensures;
  inside = c.part_within.ensures.inside;
}
