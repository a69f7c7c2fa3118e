use Rattle.std.proofs.Common.{◌∙◌}
use Rattle.machine.specs.Causes.Laws.{cause3_is}
use Rattle.sheet.specs.Format.{standard}
use Rattle.machine.proofs.checks.shape.Goals as goal

pub returns : goal.returns
returns c =
    c.refuse.ensures
    ∙ cause3_is standard _ _ c.byte-n.ensures
    c.byte-k.ensures
    c.outside-states.ensures c.outside-commands.ensures
