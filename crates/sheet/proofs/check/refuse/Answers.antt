use Rattle.sheet.specs.Check.{refusal◌with◌if◌}
use Rattle.sheet.proofs.check.refuse.Goals as goal

pub returns-then-present : goal.returns-then-present
unfolding refusal◌with◌if◌
returns-then-present c = cc

pub returns : goal.returns
unfolding refusal◌with◌if◌
returns c = cc
