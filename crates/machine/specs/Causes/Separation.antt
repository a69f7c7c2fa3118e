-- The laws of cause 6: it is clear exactly where the word separates the states.
use Rattle.std.specs.Prelude.{ℕ, ◌+◌, ◌*◌, ◌<◌, ◌≡◌, refl, Bool, true, false, ◌&&◌, List, ltb}
use Rattle.std.proofs.Common.{sym, ap, ap₂, ◌∙◌, true≢false, inl, inr, arith, lt-ltb, le-ltb, ltb-true}
use Rattle.std.proofs.Math.Path.{fun_ext}
use Rattle.facts.specs.Tests.{true_or_false, both_true}
use Rattle.facts.specs.Lists.{same, same_refl, same_equal}
use Rattle.sheet.specs.Check.{refusal◌with◌if◌, first, Clear, Refused}
use Rattle.sheet.specs.Check.Laws.{absent, present, clear_absent, first_clear, first_clear_at}
use Rattle.machine.specs.Machine.{Mealy, tabled, answers, Separates}
use Rattle.machine.specs.Machine.Laws.{answers_tabled}
use Rattle.machine.specs.Causes.{pair_cause, cause6}

-- ---- a pair that a loop looks at
module _ (M : Mealy) (w : List ℕ) (i : ℕ) where
  -- no pair below or on the diagonal counts
  pub low_clear : first (i + 1) (pair_cause M w i) ≡ Clear
  low_clear = first_clear (i + 1) (pair_cause M w i)
      (λ j l. absent 6 (16 * i + j)
      (ap (λ (b : Bool). b && same (answers M i w) (answers M j w)) (le-ltb i j (omega arith))))

  module _ (j : ℕ) (above : i < j) {b : Bool} (e : b ≡ same (answers M i w) (answers M j w)) where
    tested : (ltb i j && same (answers M i w) (answers M j w)) ≡ b
    tested = ap (λ (x : Bool). x && same (answers M i w) (answers M j w)) (lt-ltb i j above) ∙ sym e

    pub pair_present : b ≡ true → Refused 6 (16 * i + j) ≡ pair_cause M w i j
    pair_present t = sym (present 6 (16 * i + j) (tested ∙ t))

    pub pair_absent : b ≡ false → Clear ≡ pair_cause M w i j
    pair_absent t = sym (absent 6 (16 * i + j) (tested ∙ t))

-- ---- all pairs
pub cause6_is : (M : Mealy) (w : List ℕ) → first M.n (λ i. first M.n (pair_cause M w i)) ≡ cause6 M w
unfolding cause6
cause6_is M w = refl

pub pairs_tabled : (n k start n' start' : ℕ) (next answer w : List ℕ) (i : ℕ)
    → pair_cause (tabled n k start next answer) w i ≡ pair_cause (tabled n' k start' next answer) w i
pairs_tabled n k start n' start' next answer w i =
    fun_ext (λ j. ap₂ (λ (x y : List ℕ). refusal 6 with 16 * i + j if (ltb i j && same x y))
    (answers_tabled n k start n' start' next answer i w)
    (answers_tabled n k start n' start' next answer j w))

-- the rows of cause 6, of a machine of two columns
pub cause6_rows : (n k start : ℕ) (next answer w : List ℕ)
    → first n (λ i. first n (pair_cause (tabled n k start next answer) w i)) ≡ cause6 (tabled n k start next answer) w
unfolding tabled
cause6_rows n k start next answer w = cause6_is (tabled n k start next answer) w

pub cause6_tabled : (n k start start' : ℕ) (next answer w : List ℕ)
    → cause6 (tabled n k start next answer) w ≡ cause6 (tabled n k start' next answer) w
cause6_tabled n k start start' next answer w =
    sym (cause6_rows n k start next answer w)
    ∙ ap (first n) (fun_ext (λ i. ap (first n) (pairs_tabled n k start n start' next answer w i)))
    ∙ cause6_rows n k start' next answer w

-- ---- cause 6 and separation
pair_clear : (M : Mealy) (w : List ℕ) → cause6 M w ≡ Clear → (i j : ℕ) → i < M.n → j < M.n
    → (ltb i j && same (answers M i w) (answers M j w)) ≡ false
pair_clear M w e i j il jl =
    clear_absent 6 (16 * i + j) _
    (first_clear_at M.n j (pair_cause M w i) (first_clear_at M.n i _ (cause6_is M w ∙ e) il) jl)

never_below : (M : Mealy) (w : List ℕ) → cause6 M w ≡ Clear → (i j : ℕ) → i < M.n → j < M.n
    → answers M i w ≡ answers M j w → i < j → ⊥
never_below M w e i j il jl q l =
    let t : (ltb i j && same (answers M i w) (answers M j w)) ≡ true =
    ap₂ ◌&&◌ (lt-ltb i j l) (ap (same (answers M i w)) (sym q) ∙ same_refl (answers M i w)) in
    true≢false (sym t ∙ pair_clear M w e i j il jl)

pub clear_separates : (M : Mealy) (w : List ℕ) → cause6 M w ≡ Clear → Separates M w
clear_separates M w e i j il jl q =
    let a = never_below M w e i j il jl q in
    let b = never_below M w e j i jl il (sym q) in
    omega arith

pub separates_clear : (M : Mealy) (w : List ℕ) → Separates M w → cause6 M w ≡ Clear
separates_clear M w h =
    sym (cause6_is M w)
    ∙ first_clear M.n _
    (λ i il. first_clear M.n (pair_cause M w i) (λ j jl. absent 6 (16 * i + j) (apart i j il jl)))
  where
    apart : (i j : ℕ) → i < M.n → j < M.n → (ltb i j && same (answers M i w) (answers M j w)) ≡ false
    apart i j il jl = elim (true_or_false (ltb i j && same (answers M i w) (answers M j w))) [
      | inl e ↦ (let t = both_true (ltb i j) _ e in
          absurd (omega (arith, h i j il jl (same_equal _ _ t.1), ltb-true i j t.0)))
      | inr e ↦ e
    ]
