-- The laws of numbers in decimal: their equations without a bound.
use Rattle.std.specs.Prelude.{ℕ, zero, suc, ◌+◌, ◌/◌, ◌%◌, ◌≤◌, ◌<◌, ◌≡◌, [], ◌∷◌, ◌++◌}
use Rattle.std.proofs.Common.{sym, ◌∙◌, inl, inr, arith, add-one, lt-ltb, le-ltb}
use Rattle.std.proofs.Math.Nat.{div-lt_self}
use Rattle.facts.specs.Numbers.{less_or_not}
use Rattle.facts.specs.Decimal.{decimal_within, decimal}

-- ---- with a bound
within_digit : (most n : ℕ) → n < 10 → decimal_within (suc most) n ≡ (48 + n) ∷ []
unfolding decimal_within
within_digit most n h = rw (lt-ltb n 10 h)

within_more : (most n : ℕ) → 10 ≤ n → decimal_within (suc most) n ≡ decimal_within most (n / 10) ++ ((48 + n % 10) ∷ [])
unfolding decimal_within
within_more most n h = rw (le-ltb n 10 h)

-- without its last digit a number is less
pub shorter : (n : ℕ) → 10 ≤ n → n / 10 < n
shorter n h = div-lt_self {n = n} {k = 10} (omega arith) (omega arith)

-- any bound above n gives the same
enough : (f g n : ℕ) → n < f → n < g → decimal_within f n ≡ decimal_within g n
enough zero g n a b = let z : ⊥ = omega arith in absurd z
enough (suc f) zero n a b = let z : ⊥ = omega arith in absurd z
enough (suc f) (suc g) n a b = elim (less_or_not n 10) [
  | inl h ↦ within_digit f n h ∙ sym (within_digit g n h)
  | inr h ↦ (let less = shorter n h in
      rw (within_more f n h, within_more g n h, enough f g (n / 10) (omega arith) (omega arith)))
]

-- ---- without
-- one digit
pub decimal_digit : (n : ℕ) → n < 10 → decimal n ≡ (48 + n) ∷ []
unfolding decimal
decimal_digit n h = rw (add-one n) (within_digit n n h)

-- more digits: those of n / 10, then the last one
pub decimal_more : (n : ℕ) → 10 ≤ n → decimal n ≡ decimal (n / 10) ++ ((48 + n % 10) ∷ [])
unfolding decimal
decimal_more n h =
    let less : n / 10 < n = shorter n h in
    rw (add-one n, within_more n n h, enough n (n / 10 + 1) (n / 10) (omega arith) (omega arith))
