-- The digits that the kit's `io::decimal` gives are the number in decimal, and how many there are.
use Rattle.std.specs.Prelude.{ℕ, zero, suc, ◌+◌, ◌-◌, ◌*◌, ◌/◌, ◌%◌, ◌^◌, ◌≤◌, ◌<◌, ◌≡◌, List, [], ◌∷◌, ◌++◌}
use Rattle.std.proofs.Common.{sym, ap, ap₂, subst, ◌∙◌, inl, inr, arith, pow-suc, mod-lt, mod-eq_of_lt}
use Rattle.std.proofs.Common.{div-lt_iff_lt-mul, le-div_iff_mul-le, lt-ltb}
use Rattle.std.proofs.Math.Nat.{one-le-pow, pow-le-pow_right}
use Rattle.facts.specs.Numbers.{less_or_not}
use Rattle.facts.specs.Decimal.{decimal}
use Rattle.facts.specs.Decimal.Laws.{shorter, decimal_digit, decimal_more}
use Rattle.io.specs.Digits.{hex_digit_ascii, last_digits, IsDigitCount}

-- the most digits of a 64-bit number
abbrev pub most_digits : ℕ
most_digits = 20

suc_sub : (n : ℕ) → suc n - 1 ≡ n
suc_sub n = omega arith

glyph_is : (d : ℕ) → d < 10 → hex_digit_ascii d ≡ 48 + d
glyph_is d h = simp (lt-ltb d 10 h)

-- as many digits as are needed, and no fewer than one
agree : (f n k : ℕ) → n < f → IsDigitCount 10 1 n k → last_digits 10 k n ≡ decimal n
agree zero n k a h = let z : ⊥ = omega arith in absurd z
agree (suc f) n zero a h = let z : ⊥ = omega (arith, h.0) in absurd z
agree (suc f) n (suc zero) a h =
    let low : n < 10 = omega (arith, h.1) in
    ap (λ (d : ℕ). d ∷ []) (ap hex_digit_ascii (mod-eq_of_lt low) ∙ glyph_is n low) ∙ sym (decimal_digit n low)
agree (suc f) n (suc (suc k)) a h =
    let top : 10 ^ suc k ≤ n = subst (λ (j : ℕ). 10 ^ j ≤ n) (suc_sub (suc k)) (h.2 (omega arith)) in
    let high : 10 ≤ n = omega (arith, pow-suc 10 k, one-le-pow k 10 (omega arith)) in
    let less : n / 10 < n = shorter n high in
    let few : IsDigitCount 10 1 (n / 10) (suc k) = (
      omega arith,
      (div-lt_iff_lt-mul {k = 10} (omega arith)).1 (subst (λ (x : ℕ). n < x) (pow-suc 10 (suc k)) h.1),
      λ _. (le-div_iff_mul-le {k = 10} (omega arith)).1
          (subst (λ (j : ℕ). 10 ^ j * 10 ≤ n) (sym (suc_sub k)) (subst (λ (x : ℕ). x ≤ n) (pow-suc 10 k) top)),
    ) in
    ap₂ (λ (l : List ℕ) (d : ℕ). l ++ (d ∷ [])) (agree f (n / 10) (suc k) (omega arith) few)
    (glyph_is (n % 10) (mod-lt n (omega arith)))
    ∙ sym (decimal_more n high)

-- the digits that `io::decimal` gives are the number in decimal
pub digits_decimal : (n k : ℕ) → IsDigitCount 10 1 n k → last_digits 10 k n ≡ decimal n
digits_decimal n k h = agree (n + 1) n k (omega arith) h

-- a 64-bit number has at most so many digits
pub few_digits : (n k : ℕ) → n < 2 ^ 64 → IsDigitCount 10 1 n k → k ≤ most_digits
few_digits n k l h = elim (less_or_not most_digits k) [
  | inl high ↦ (let most : 10 ^ most_digits ≤ 10 ^ (k - 1) =
      pow-le-pow_right {n = 10} (omega arith) {i = most_digits} {j = k - 1} (omega arith) in
      let z : ⊥ = omega (arith, h.2 (omega arith)) in absurd z)
  | inr low ↦ low
]
