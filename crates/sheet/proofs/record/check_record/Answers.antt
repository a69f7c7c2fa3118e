use Rattle.std.proofs.Common.{ap₂, ◌∙◌}
use Rattle.sheet.specs.Check.{◌else◌}
use Rattle.sheet.specs.Check.Laws.{else_and}
use Rattle.sheet.specs.Format.{cause_of}
use Rattle.sheet.proofs.record.check_record.Goals as goal

pub returns : goal.returns
unfolding cause_of
returns c = c.and.ensures ∙ else_and _ _ ∙ ap₂ ◌else◌ c.cut.ensures c.misplaced.ensures
