use Rattle.std.proofs.Common.{sym, ◌∙◌}
use Rattle.machine.specs.Limits.{most_sequence}
use Rattle.machine.specs.Machine.{meaning}
use Rattle.machine.specs.Causes.Lists.{sequence_causes_are}
use Rattle.machine.proofs.LoadChecks.{held_commands}
use Rattle.machine.proofs.checks.sequence_check.Goals as goal

pub returns : goal.returns
returns c =
    let args = c.args in
    held_commands args.m.now 7 most_sequence args.at args.xs.now c.commands.ensures
    ∙ sym (sequence_causes_are (meaning args.m.now) args.at args.xs.now)
