use Rattle.std.proofs.Common.{ap, ◌∙◌}
use Rattle.bench.specs.Words.{read_or, kind_in}
use Rattle.bench.proofs.words.kind_in.Goals as goal

pub returns-in-Some : goal.returns-in-Some
unfolding kind_in
returns-in-Some c = c.on_sheet.ensures ∙ ap read_or c.in-Some.ensures

pub returns-in-None : goal.returns-in-None
unfolding kind_in
returns-in-None c = c.wrong.ensures ∙ ap read_or c.in-None.ensures
