-- The pigeonhole principle, over the numbers of the program's contracts, and that a function that is one to one into
-- no more numbers is onto.
use Rattle.std.specs.Prelude.{ℕ, zero, suc, ◌≤◌, ◌<◌, ◌≡◌, refl, Bool, true, false, eqb}
use Rattle.std.proofs.Common.{sym, ◌∙◌, inl, inr, arith, eqb-true}
use Rattle.facts.specs.Tests.{true_or_false}
use Rattle.facts.specs.Numbers.{equal_or_not}
use Rattle.std.proofs.lemmas.Bool.{eqb-false}

-- a value v among the first n values of f, or nowhere there
data Sought (f : ℕ → ℕ) (v n : ℕ) : Type 0 where
  at : (i : ℕ) → i < n → f i ≡ v → Sought f v n
  nowhere : ((i : ℕ) → i < n → f i ≡ v → ⊥) → Sought f v n

seek : (f : ℕ → ℕ) (v n : ℕ) → Sought f v n
seek f v zero = nowhere (λ i l e. omega arith)
seek f v (suc n) = elim (seek f v n) [
  | at i l e ↦ at i (omega arith) e
  | nowhere h ↦ elim (equal_or_not (f n) v) [
    | inl e ↦ at n (omega arith) e
    | inr o ↦ nowhere (λ i l q. let d : i ≡ n → ⊥ = λ s. o (rw s at q) in h i (omega arith) q)
  ]
]

-- y, or a value v where x is m
data Instead (v m x y r : ℕ) : Type 0 where
  changed : x ≡ m → r ≡ v → Instead v m x y r
  kept : (x ≡ m → ⊥) → r ≡ y → Instead v m x y r

abbrev choose : Bool → ℕ → ℕ → ℕ
choose true v x = v
choose false v x = x

instead : (v m x y : ℕ) → Instead v m x y (choose (eqb x m) v y)
instead v m x y = elim (true_or_false (eqb x m)) [
  | inl e ↦ rw e (changed (eqb-true x m e) refl)
  | inr e ↦ rw e (kept (eqb-false x m e) refl)
]

-- two places with one value
abbrev pub Twice : (n : ℕ) (f : ℕ → ℕ) → Type 0
Twice n f = (i : ℕ) × (j : ℕ) × (i < j) × (j ≤ n) × (f i ≡ f j)

module _ (n : ℕ) (f : ℕ → ℕ) (low : (i : ℕ) → i ≤ suc n → f i < suc n)
    (apart : (i : ℕ) → i < suc n → f i ≡ f (suc n) → ⊥) where
  -- where the last value stands only at the end, the values with it in place of n are below n
  fewer : (i : ℕ) → i ≤ n → {y : ℕ} → Instead (f (suc n)) n (f i) (f i) y → y < n
  fewer i l (changed e q) =
      let o : f (suc n) ≡ n → ⊥ = λ s. apart i (omega arith) (e ∙ sym s) in omega (arith, low (suc n) (omega arith))
  fewer i l (kept o q) = omega (arith, low i (omega arith))

  -- and places with one such value have one value
  alike : (i j : ℕ) → i ≤ n → j ≤ n → {x y : ℕ} → Instead (f (suc n)) n (f i) (f i) x
      → Instead (f (suc n)) n (f j) (f j) y → x ≡ y → f i ≡ f j
  alike i j il jl (changed e q) (changed e' q') s = omega arith
  alike i j il jl (changed e q) (kept o q') s = absurd (apart j (omega arith) (omega arith))
  alike i j il jl (kept o q) (changed e q') s = absurd (apart i (omega arith) (omega arith))
  alike i j il jl (kept o q) (kept o' q') s = omega arith

-- of n + 1 places with values below n, two have the same value
pub pigeonhole : (n : ℕ) (f : ℕ → ℕ) → ((i : ℕ) → i ≤ n → f i < n) → Twice n f
pigeonhole zero f low = let z : ⊥ = omega (arith, low 0 (omega arith)) in absurd z
pigeonhole (suc n) f low = elim (seek f (f (suc n)) (suc n)) [
  | at i l e ↦ (i, suc n, l, omega arith, e)
  | nowhere h ↦ (let v = f (suc n) in
      let r = pigeonhole n (λ i. choose (eqb (f i) n) v (f i)) (λ i l. fewer n f low h i l (instead v n (f i) (f i))) in
      let il : r.0 ≤ n = omega (arith, r.2, r.3) in
      let same = alike n f low h _ _ il r.3 (instead v n (f r.0) _) (instead v n (f r.1) _) r.4 in
      (r.0, r.1, r.2, omega (arith, r.3), same))
]

module _ (n m : ℕ) (f : ℕ → ℕ) (few : m ≤ n) (low : (i : ℕ) → i < n → f i < m)
    (one : (i j : ℕ) → i < n → j < n → f i ≡ f j → i ≡ j) where
  -- f, with one value more at n
  longer_low : (v i y : ℕ) → v < m → i ≤ n → Instead v n i (f i) y → y < n
  longer_low v i y l k (changed e q) = omega arith
  longer_low v i y l k (kept o q) = omega (arith, low i (omega arith))

  apart : (v i j x y : ℕ) → ((s : ℕ) → s < n → f s ≡ v → ⊥) → i < j → j ≤ n → Instead v n i (f i) x
      → Instead v n j (f j) y → x ≡ y → ⊥
  apart v i j x y h l k (changed e q) (changed e' q') s = omega arith
  apart v i j x y h l k (changed e q) (kept o q') s = omega arith
  apart v i j x y h l k (kept o q) (changed e q') s = h i (omega arith) (omega arith)
  apart v i j x y h l k (kept o q) (kept o' q') s =
      let z = one i j (omega arith) (omega arith) (omega arith) in omega arith

  -- a function that is one to one from the numbers below n to those below m, and m at most n, leaves none out
  pub onto : (v : ℕ) → v < m → (s : ℕ) × (s < n) × (f s ≡ v)
  onto v l = elim (seek f v n) [
    | at s sl e ↦ (s, sl, e)
    | nowhere h ↦ (let t =
        pigeonhole n (λ i. choose (eqb i n) v (f i)) (λ i il. longer_low v i _ l il (instead v n i (f i))) in
        absurd (apart v t.0 t.1 _ _ h t.2 t.3 (instead v n t.0 _) (instead v n t.1 _) t.4))
  ]
