-- Facts about tests, that is, values of type Bool, that the proofs of several crates cite. The kit's
-- `borrow.Author.Tests` has those of tests that compare numbers.
use Rattle.std.specs.Prelude.{◌≡◌, refl, Bool, true, false, cond, ◌&&◌, ◌||◌, ◌⊎◌}
use Rattle.std.proofs.Common.{ap, inl, inr}

pub true_or_false : (b : Bool) → (b ≡ true) ⊎ (b ≡ false)
true_or_false true = inl refl
true_or_false false = inr refl

-- ---- a test of two parts: an `and` that passes, an `or` that fails, and an `or` that passes
pub both_true : (a b : Bool) → (a && b) ≡ true → (a ≡ true) × (b ≡ true)
both_true true b e = (refl, e)
both_true false b e = (e, cc)

pub neither : (a b : Bool) → (a || b) ≡ false → (a ≡ false) × (b ≡ false)
neither true b e = (e, cc)
neither false b e = (refl, e)

pub either_true : (a b : Bool) → (a || b) ≡ true → (a ≡ true) ⊎ (b ≡ true)
either_true true b e = inl refl
either_true false b e = inr e

pub or_left : {a : Bool} (b : Bool) → a ≡ true → (a || b) ≡ true
or_left b e = rw e

pub or_right : (a : Bool) {b : Bool} → b ≡ true → (a || b) ≡ true
or_right true e = refl
or_right false e = e

-- ---- what a test chooses
module _ {A : Type 0} {t : Bool} (a b : A) where
  pub if_true : t ≡ true → cond t a b ≡ a
  if_true e = ap (λ (x : Bool). cond x a b) e

  pub if_false : t ≡ false → cond t a b ≡ b
  if_false e = ap (λ (x : Bool). cond x a b) e
