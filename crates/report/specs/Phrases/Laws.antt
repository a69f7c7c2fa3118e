-- The laws of the phrases: which numbers have none, and how long they are.
use Rattle.std.specs.Prelude.{ℕ, ◌+◌, ◌≤◌, ◌<◌, ◌≡◌, refl, List, [], ◌∷◌}
use Rattle.std.proofs.Common.{sym, ap, ◌∙◌, inl, inr, arith}
use Rattle.std.proofs.Math.ListN.{get_or-eq_default}
use Rattle.facts.specs.Numbers.{less_or_not}
use Rattle.report.specs.Phrases.{phrases, phrase}

-- the phrase of a number that is known by an equation
pub phrase_is : {number n : ℕ} {text : List ℕ} → number ≡ n → text ≡ phrase n → text ≡ phrase number
phrase_is e h = h ∙ ap phrase (sym e)

phrase_zero : phrase 0 ≡ []
unfolding phrase
phrase_zero = refl

-- above 11 there is no phrase
pub phrase_above : (number : ℕ) → 11 < number → phrase number ≡ []
unfolding phrase
phrase_above number h = get_or-eq_default ([] ∷ phrases) [] h

down : (n m : ℕ) → n ≤ m + 1 → (n ≡ m + 1 → ⊥) → n ≤ m
down n m l d = omega (arith, d)

-- no other number than 1 to 11 has one
pub phrase_none : (n : ℕ) → (n ≡ 1 → ⊥) → (n ≡ 2 → ⊥) → (n ≡ 3 → ⊥) → (n ≡ 4 → ⊥) → (n ≡ 5 → ⊥) → (n ≡ 6 → ⊥)
    → (n ≡ 7 → ⊥) → (n ≡ 8 → ⊥) → (n ≡ 9 → ⊥) → (n ≡ 10 → ⊥) → (n ≡ 11 → ⊥) → phrase n ≡ []
phrase_none n a b c d e f g h i j k = elim (less_or_not 11 n) [
  | inl l ↦ phrase_above n l
  | inr l ↦ (let z : n ≤ 0 =
      down n 0 (down n 1 (down n 2 (down n 3
      (down n 4 (down n 5 (down n 6 (down n 7 (down n 8 (down n 9 (down n 10 l k) j) i) h) g) f) e) d) c) b) a in
      let e : n ≡ 0 = omega arith in
      ap phrase e ∙ phrase_zero)
]
