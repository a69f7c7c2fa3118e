use Rattle.std.proofs.Common.{◌∙◌}
use Rattle.sheet.specs.Check.Laws.{stops_with, goes_on}
use Rattle.machine.specs.Limits.{most_word}
use Rattle.machine.specs.Machine.{meaning}
use Rattle.machine.specs.Causes.Lists.{word_causes_are}
use Rattle.machine.proofs.LoadChecks.{held_commands}
use Rattle.machine.proofs.checks.word_check.Goals as goal

pub returns-in_err-commands : goal.returns-in_err-commands
returns-in_err-commands c =
    let m = c.args.m.now in
    stops_with _ _ c.from_residual.ensures.1 (word_causes_are (meaning m) c.args.at c.args.w.now)
    (held_commands m 5 most_word c.args.at c.args.w.now c.commands.ensures) c.in_err-commands.was

pub returns : goal.returns
returns c =
    let m = c.args.m.now in
    c.separation.ensures
    ∙ goes_on _ _ (word_causes_are (meaning m) c.args.at c.args.w.now)
    (held_commands m 5 most_word c.args.at c.args.w.now c.commands.ensures) c.in_ok-commands.was
