-- The laws of lists of marks: tests over a range, lists by their elements, and the number of marks.
use Prim.Native.Nat.{ℕ, zero, suc, ◌+◌, ◌≤◌, ◌<◌}
use Rattle.std.specs.Prelude.{◌≡◌, refl, Bool, true, false, eqb, length, get_or, take}
use Rattle.std.proofs.Common.{sym, ◌∙◌, le_of_suc-le-suc, eq-or-lt_of_le, not-suc-le-zero}
use Rattle.std.proofs.Math.Path.{ap}
use mathlib.Core.List.{List, [], ◌∷◌, ◌++◌}
use Rattle.std.proofs.Math.Logic.{inl, inr}
use native.Mathlib.Omega.{arith}
use borrow.Author.Tests.{eq-eqb, eqb-true}
use Rattle.facts.specs.Tests.{either_true, or_left, or_right, true_or_false}
use Rattle.facts.specs.Lists.{take_more}
use Rattle.certify.specs.Marks.{any, tabulate, mark, marks_by, Bits, marked, count}

-- ---- any
pub any_found : (n : ℕ) (f : ℕ → Bool) → any n f ≡ true → (i : ℕ) × (i < n) × (f i ≡ true)
unfolding any
any_found zero f e = let z : ◌≡◌ {A = ℕ} 0 1 = cc in absurd (omega arith)
any_found (suc n) f e = elim (either_true (any n f) (f n) e) [
  | inl h ↦ (let r = any_found n f h in (r.0, omega (arith, r.1), r.2))
  | inr h ↦ (n, omega arith, h)
]

pub any_holds : (n : ℕ) (f : ℕ → Bool) (i : ℕ) → i < n → f i ≡ true → any n f ≡ true
unfolding any
any_holds zero f i l e = absurd (not-suc-le-zero l)
any_holds (suc n) f i l e = elim (eq-or-lt_of_le (le_of_suc-le-suc l)) [
  | inl q ↦ or_right (any n f) (rw (← q) e)
  | inr q ↦ or_left (f n) (any_holds n f i q e)
]

-- ---- lists by their elements
pub tabulate_length : (n : ℕ) (f : ℕ → ℕ) → length (tabulate n f) ≡ n
unfolding tabulate
tabulate_length zero f = refl
tabulate_length (suc n) f = ap suc (tabulate_length n (λ i. f (suc i)))

pub tabulate_at : (n : ℕ) (f : ℕ → ℕ) (i : ℕ) → i < n → get_or (tabulate n f) i 0 ≡ f i
unfolding tabulate
tabulate_at zero f i l = absurd (not-suc-le-zero l)
tabulate_at (suc n) f zero l = refl
tabulate_at (suc n) f (suc i) l = tabulate_at n (λ j. f (suc j)) i (le_of_suc-le-suc l)

tabulate_bits : (n : ℕ) (f : ℕ → ℕ) → ((i : ℕ) → f i ≤ 1) → Bits (tabulate n f)
unfolding tabulate
tabulate_bits zero f h i = omega arith
tabulate_bits (suc n) f h zero = h 0
tabulate_bits (suc n) f h (suc i) = tabulate_bits n (λ j. f (suc j)) (λ j. h (suc j)) i

-- ---- marks
pub marked_true : (ms : List ℕ) (p : ℕ) → marked ms p ≡ true → get_or ms p 0 ≡ 1
marked_true ms p e = eqb-true _ _ e

pub true_marked : (ms : List ℕ) (p : ℕ) → get_or ms p 0 ≡ 1 → marked ms p ≡ true
true_marked ms p e = eq-eqb _ _ e

pub mark_true : (b : Bool) → mark b ≡ 1 → b ≡ true
mark_true true e = refl
mark_true false e = let z : ◌≡◌ {A = ℕ} 0 1 = e in absurd (omega arith)

pub mark_bit : (b : Bool) → mark b ≤ 1
mark_bit true = omega arith
mark_bit false = omega arith

-- a place that is marked is among the places
pub marked_inside : (ms : List ℕ) (p : ℕ) → get_or ms p 0 ≡ 1 → p < length ms
marked_inside [] p e = let z : ◌≡◌ {A = ℕ} 0 1 = e in absurd (omega arith)
marked_inside (m ∷ ms) zero e = omega arith
marked_inside (m ∷ ms) (suc p) e = let h = marked_inside ms p e in omega arith

-- one mark for each place, by a test
module _ (xs : List ℕ) (f : ℕ → Bool) where
  pub marks_by_length : length (marks_by xs f) ≡ length xs + 1
  unfolding marks_by
  marks_by_length = tabulate_length _ _

  pub marks_by_bits : Bits (marks_by xs f)
  unfolding marks_by
  marks_by_bits = tabulate_bits _ _ (λ p. mark_bit (f p))

  pub marks_by_at : (p : ℕ) → p ≤ length xs → get_or (marks_by xs f) p 0 ≡ mark (f p)
  unfolding marks_by
  marks_by_at p l = tabulate_at _ _ p (omega arith)

  -- marked exactly where the test holds
  pub marks_by_one : (p : ℕ) → p ≤ length xs → f p ≡ true → get_or (marks_by xs f) p 0 ≡ 1
  marks_by_one p l e = marks_by_at p l ∙ ap mark e

  pub marks_by_true : (p : ℕ) → get_or (marks_by xs f) p 0 ≡ 1 → f p ≡ true
  marks_by_true p e =
      mark_true (f p) (sym (marks_by_at p (omega (arith, marked_inside (marks_by xs f) p e, marks_by_length))) ∙ e)

-- ---- the number of marks
pub count_most : (a : List ℕ) → count a ≤ length a
unfolding count
count_most [] = omega arith
count_most (m ∷ a) = omega (arith, mark_bit (eqb m 1), count_most a)

count_append : (a b : List ℕ) → count (a ++ b) ≡ count a + count b
unfolding count
count_append [] b = omega arith
count_append (m ∷ a) b = omega (arith, count_append a b)

-- of the first places, one by one
pub count_next : (a : List ℕ) (i : ℕ) → i < length a
    → count (take (i + 1) a) ≡ count (take i a) + mark (eqb (get_or a i 0) 1)
unfolding count
count_next a i l = rw (take_more a i l, count_append) (omega arith)

pub count_none : (a : List ℕ) → count (take 0 a) ≡ 0
unfolding count
count_none a = refl

-- of two lists of one length, the second marked wherever the first is
module _ where
  mark_below : (m n : ℕ) → (m ≡ 1 → n ≡ 1) → mark (eqb m 1) ≤ mark (eqb n 1)
  mark_below m n h = elim (true_or_false (eqb m 1)) [
    | inl e ↦ rw (e, eq-eqb n 1 (h (eqb-true m 1 e))) (omega arith)
    | inr e ↦ rw e (omega arith)
  ]

  pub count_below : (a b : List ℕ) → length a ≡ length b → ((p : ℕ) → get_or a p 0 ≡ 1 → get_or b p 0 ≡ 1)
      → count a ≤ count b
  unfolding count
  count_below [] b l h = omega arith
  count_below (m ∷ a) [] l h = let z : ⊥ = omega arith in absurd z
  count_below (m ∷ a) (n ∷ b) l h =
      omega (arith, mark_below m n (h 0), count_below a b (omega arith) (λ p e. h (suc p) e))

  pub count_same : (a b : List ℕ) → length a ≡ length b → ((p : ℕ) → get_or a p 0 ≡ 1 → get_or b p 0 ≡ 1)
      → count b ≤ count a → (p : ℕ) → get_or b p 0 ≡ 1 → get_or a p 0 ≡ 1
  unfolding count
  count_same [] [] l h c p e = e
  count_same [] (n ∷ b) l h c p e = let z : ⊥ = omega arith in absurd z
  count_same (m ∷ a) [] l h c p e = let z : ⊥ = omega arith in absurd z
  count_same (m ∷ a) (n ∷ b) l h c zero e = elim (true_or_false (eqb m 1)) [
    | inl q ↦ eqb-true m 1 q
    | inr q ↦ (let below = count_below a b (omega arith) (λ p i. h (suc p) i) in
        absurd (omega (arith, ap mark (eq-eqb n 1 e), ap mark q)))
  ]
  count_same (m ∷ a) (n ∷ b) l h c (suc p) e =
      count_same a b (omega arith) (λ q i. h (suc q) i) (omega (arith, mark_below m n (h 0))) p e
