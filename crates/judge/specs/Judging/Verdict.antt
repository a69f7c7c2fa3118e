-- The laws of the verdict: what each result says of the answers, and that the verdict is what holds of them. The other
-- direction, that the verdict holds, is in proofs/JudgingVerdict.antt.
use Rattle.std.specs.Prelude.{ℕ, ◌≤◌, ◌<◌, ◌≡◌, refl, List, length, get_or}
use Rattle.std.proofs.Common.{sym, ap, ap₂, ◌∙◌, arith}
use borrow.Author.Tests.{lt-ltb, le-ltb, eq-eqb, ne_eqb}
use Rattle.facts.specs.CommonPrefix.{agreed_is}
use Rattle.machine.specs.Machine.{Mealy, no_answer, answers, state_at}
use Rattle.machine.specs.Machine.Laws.{answers_length}
use Rattle.judge.specs.Answer.{Answer, Pass, Wrong, Unheard, Unfinished}
use Rattle.judge.specs.Judging.{difference, result_at, verdict}

-- ---- the results, as §7 says them
-- the answers before place p are the specified ones
abbrev pub Right : Mealy → List ℕ → List ℕ → ℕ → Type 0
Right M xs ys p = (i : ℕ) → i < p → get_or (answers M M.start xs) i 0 ≡ get_or ys i 0

pub data Judged (M : Mealy) (xs ys : List ℕ) : Answer → Type 0 where
  -- pass: every answer was given, and each is the specified one
  passed : {size end : ℕ} → ys ≡ answers M M.start xs → size ≡ length xs → end ≡ state_at M xs (length xs)
      → Judged M xs ys (Pass size end)
  -- wrong: the answers before the place are right; the one there is not, and it is not the byte for no answer
  wrong : {place specified given : ℕ} → place < length ys → Right M xs ys place → (specified ≡ given → ⊥)
      → (given ≡ no_answer → ⊥) → specified ≡ get_or (answers M M.start xs) place 0 → given ≡ get_or ys place 0
      → Judged M xs ys (Wrong place specified given)
  -- unheard: the answers before the place are right; the byte there is that for no answer, and another is specified
  unheard : {place : ℕ} → place < length ys → Right M xs ys place
      → (get_or (answers M M.start xs) place 0 ≡ no_answer → ⊥) → get_or ys place 0 ≡ no_answer
      → Judged M xs ys (Unheard place)
  -- unfinished: some answers are missing, and those that were given are right
  unfinished : {number : ℕ} → number ≡ length ys → number < length xs → Right M xs ys number
      → Judged M xs ys (Unfinished number)

-- ---- the two results for an answer that is not the specified one
module _ (place specified given : ℕ) where
  pub difference_wrong : (given ≡ no_answer → ⊥) → difference place specified given ≡ Wrong place specified given
  unfolding difference
  difference_wrong h = rw (ne_eqb given no_answer h)

  pub difference_unheard : given ≡ no_answer → difference place specified given ≡ Unheard place
  unfolding difference
  difference_unheard e = rw (eq-eqb given no_answer e)

module _ (M : Mealy) (xs ys : List ℕ) (few : length ys ≤ length xs) where
  abbrev specified : List ℕ
  specified = answers M M.start xs

  many : length specified ≡ length xs
  many = answers_length M M.start xs

  -- by a place before which the answers are right, and at which they are not or end
  verdict_at : (p : ℕ) → p ≤ length ys → Right M xs ys p
      → (p < length ys → get_or specified p 0 ≡ get_or ys p 0 → ⊥) → verdict M xs ys ≡ result_at M xs ys p
  unfolding verdict
  verdict_at p l r d =
      rw (agreed_is specified ys p
      (record { in_first = omega (arith, many); in_second = l; before = r; here = λ _. d }))

  pub at_difference : {p : ℕ} → p < length ys → result_at M xs ys p ≡ difference p (get_or specified p 0) (get_or ys p 0)
  unfolding result_at
  at_difference l = rw (lt-ltb _ _ l)

  pub at_unfinished : {p : ℕ} → length ys ≤ p → p < length xs → result_at M xs ys p ≡ Unfinished p
  unfolding result_at
  at_unfinished l k = rw (le-ltb _ _ l, lt-ltb _ _ k)

  pub at_passed : {p : ℕ} → length ys ≤ p → length xs ≤ p → result_at M xs ys p ≡ Pass (length xs) (state_at M xs (length xs))
  unfolding result_at
  at_passed l k = rw (le-ltb _ _ l, le-ltb _ _ k)

  -- ---- from what holds to the verdict
  -- the answers before a place are right, and the one there is not
  pub differs_verdict : {place v g : ℕ} → place < length ys → Right M xs ys place → (v ≡ g → ⊥)
      → v ≡ get_or specified place 0 → g ≡ get_or ys place 0 → difference place v g ≡ verdict M xs ys
  differs_verdict {place} l r d se ge =
      rw (verdict_at place (omega arith) r (λ k q. d (se ∙ q ∙ sym ge)), at_difference l, se, ge)

  pub judged_verdict : {a : Answer} → Judged M xs ys a → a ≡ verdict M xs ys
  judged_verdict (passed e se ee) =
      let long : length ys ≡ length xs = ap length e ∙ many in
      let is = verdict_at (length xs) (omega arith) (λ i l. rw e) (λ l q. omega arith) in
      ap₂ Pass se ee ∙ sym (is ∙ at_passed (omega arith) (omega arith))
  judged_verdict (wrong {place} {specified = v} {given = g} l r d n se ge) =
      sym (difference_wrong place v g n) ∙ differs_verdict l r d se ge
  judged_verdict (unheard {place} l r n ge) =
      sym (difference_unheard place (get_or specified place 0) (get_or ys place 0) ge)
      ∙ differs_verdict l r (λ q. n (q ∙ ge)) refl refl
  judged_verdict (unfinished {number} e l r) =
      sym (verdict_at number (omega arith) r (λ m q. omega arith) ∙ at_unfinished (omega arith) l)
