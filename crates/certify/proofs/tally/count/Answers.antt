use Rattle.std.proofs.Common.{ℕ, ◌≡◌, ◌+◌, ◌∙◌, Bool, true, false, cond, List, eqb, count_by, take, take_all, refl}
use Rattle.std.proofs.Common.{sym, ap, zero-add}
use Rattle.std.proofs.lemmas.List.Recursion.{is_count_by}
use Rattle.certify.specs.Marks.{mark, count}
use Rattle.certify.proofs.tally.count.Goals as goal

one_more : (b : Bool) (n : ℕ) → mark b + n ≡ cond b (1 + n) n
one_more true n = refl
one_more false n = zero-add n

-- the number of marks, in std's words
counted : (marks : List ℕ) → count marks ≡ count_by (λ (m : ℕ). eqb m 1) marks
unfolding count
counted = is_count_by count (λ m. eqb m 1) refl (λ m marks. one_more (eqb m 1) (count marks))

pub returns : goal.returns
returns c =
    let marks = c.args.marks.now in
    c.loop-mark.invariant
    ∙ sym (counted (take c.loop-mark.mark-index marks))
    ∙ ap count (take_all c.loop-mark.mark-index marks c.loop-mark-test.false)
