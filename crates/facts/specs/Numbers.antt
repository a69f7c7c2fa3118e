-- Facts about numbers that proofs cite. The pigeonhole principle stands in Pigeonhole.
use Rattle.std.specs.Prelude.{ℕ, ◌+◌, ◌*◌, ◌/◌, ◌%◌, ◌^◌, ◌≤◌, ◌<◌, ◌≡◌, refl, Bool, true, false, ◌⊎◌, eqb, ltb}
use Rattle.std.proofs.Common.{sym, ap, ◌∙◌, inl, inr, mul-le-mul, mul-le-mul_left, arith, eqb-true, ltb-true}
use Rattle.std.proofs.Common.{ltb-false}
use Rattle.std.proofs.lemmas.Bool.{eqb-false}
use Rattle.std.proofs.Math.Arith.{digits_div, digits_mod}
use Rattle.facts.specs.Tests.{true_or_false}

-- two numbers are equal or not
pub equal_or_not : (a b : ℕ) → (a ≡ b) ⊎ (a ≡ b → ⊥)
equal_or_not a b = elim (true_or_false (eqb a b)) [ inl e ↦ inl (eqb-true a b e) | inr e ↦ inr (eqb-false a b e) ]

-- a bit that is not 0 is 1, and one that is not 1 is 0
pub bit_one : {b : ℕ} → b ≤ 1 → (b ≡ 0 → ⊥) → b ≡ 1
bit_one l n = omega arith

pub bit_zero : {b : ℕ} → b ≤ 1 → (b ≡ 1 → ⊥) → b ≡ 0
bit_zero l n = omega arith

-- a number is below another or not
pub less_or_not : (a b : ℕ) → (a < b) ⊎ (b ≤ a)
less_or_not a b = elim (true_or_false (ltb a b)) [ inl e ↦ inl (ltb-true a b e) | inr e ↦ inr (ltb-false a b e) ]

-- a bound that has another name
pub below_same : {a b d : ℕ} → b ≡ d → a < b → a < d
below_same e l = omega arith

pub not_below_same : {a b d : ℕ} → b ≡ d → b ≤ a → d ≤ a
not_below_same e l = omega arith

-- the product of two bytes
pub bytes_product : (a b : ℕ) → a < 256 → b < 256 → a * b ≤ 65025
bytes_product a b p q = mul-le-mul {n₁ = a} {m₁ = b} {n₂ = 255} {m₂ = 255} (omega arith) (omega arith)

-- every stride-th place, from a base and a first one on, is a number of 64 bits where the one behind the last is
pub index_fits : (base from stride i count : ℕ) → i < count → base + (from + stride * count) < 2 ^ 64
    → base + (from + stride * i) < 2 ^ 64
index_fits base from stride i count l h = omega (arith, mul-le-mul_left {m = i} {n = count} stride (omega arith))

-- where each number below n has a value with a property, one function gives them all such a value
pub choice : (n : ℕ) (P : ℕ → ℕ → Type 0) → ((i : ℕ) → i < n → (v : ℕ) × P i v)
    → (f : ℕ → ℕ) × ((i : ℕ) → i < n → P i (f i))
choice n P h = (λ i. value i (ltb i n) refl, λ i l. holds i (ltb i n) refl l)
  where
    value : (i : ℕ) (t : Bool) → ltb i n ≡ t → ℕ
    value i true e = (h i (ltb-true i n e)).0
    value i false e = 0

    holds : (i : ℕ) (t : Bool) (e : ltb i n ≡ t) → i < n → P i (value i t e)
    holds i true e l = (h i (ltb-true i n e)).1
    holds i false e l = let z : ⊥ = omega (arith, ltb-false i n e) in absurd z

-- a number to the base k has one last digit, and one number before it
pub digits_one : (k s c s' c' : ℕ) → c < k → c' < k → s * k + c ≡ s' * k + c' → (s ≡ s') × (c ≡ c')
digits_one k s c s' c' l l' e = (
  sym (digits_div s l) ∙ ap (λ (x : ℕ). x / k) e ∙ digits_div s' l',
  sym (digits_mod s l) ∙ ap (λ (x : ℕ). x % k) e ∙ digits_mod s' l',
)
