use Rattle.std.proofs.Common.{ℕ, ap, ◌∙◌, leb}
use Rattle.sheet.specs.Check.{refusal◌with◌if◌}
use Rattle.sheet.specs.Format.{rank, cause2}
use Rattle.sheet.proofs.record.misplaced.Goals as goal

pub returns : goal.returns
unfolding cause2
returns c =
    let args = c.args in
    c.refuse.ensures
    ∙ ap (λ (n : ℕ). refusal 2 with args.r.start if leb n args.last)
    (c.rank.ensures ∙ ap rank c.from.ensures)
