use Rattle.std.proofs.Common.{refl, sym, ◌∙◌, arith}
use Rattle.sheet.specs.Check.Laws.{stops_with, goes_on}
use Rattle.machine.specs.Machine.{meaning}
use Rattle.machine.specs.Causes.Lists.{clear_distinguishes}
use Rattle.writer.proofs.parts.Parts.word_and_later.Goals as goal

pub returns-in_err-word_check : goal.returns-in_err-word_check
returns-in_err-word_check c =
    stops_with _ _ c.from_residual.ensures.1 refl c.word_check.ensures c.in_err-word_check.was

pub overflow_cast-next-2 : goal.overflow_cast-next-2
overflow_cast-next-2 c =
    let word = clear_distinguishes (meaning c.args.m.now) c.args.at c.args.self.now.word.now
    (sym c.word_check.ensures ∙ c.in_ok-word_check.was) in
    omega (arith, word.commands.few, c.requires)

pub returns : goal.returns
returns c = c.later_check.ensures ∙ goes_on _ _ refl c.word_check.ensures c.in_ok-word_check.was
