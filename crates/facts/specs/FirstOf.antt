-- A value or none, a value under a test, and the first value of some: `first_of n f` is the first among f 0, f 1, ..,
-- f (n - 1) that is there.
use Prim.Native.Nat.{ℕ, zero, suc, ◌<◌}
use Rattle.std.specs.Prelude.{◌≡◌, Bool}
use Rattle.std.proofs.Math.Path.{refl}
use Rattle.std.proofs.Common.{sym, ap, ◌∙◌}
use Rattle.std.proofs.Math.Bool.{true, false}
use Rattle.std.proofs.Math.Option.{Option, none, some, some-ne-none, mem_unique, or_else}
use native.Mathlib.Omega.{arith}
use borrow.Author.Count.{below_more}

module _ {A : Type 0} where
  -- ---- a value or none
  -- there is a value
  abbrev pub Some : Option A → Type 0
  Some o = (t : A) × (o ≡ some t)

  -- a value is not none
  pub some_none : {o : Option A} {t : A} → o ≡ some t → o ≡ none → ⊥
  some_none {t = t} p q = some-ne-none t (sym p ∙ q)

  -- a value or none
  pub data Seen (o : Option A) : Type 0 where
    nothing : o ≡ none → Seen o
    value : (t : A) → o ≡ some t → Seen o

  -- it is one of the two
  pub seen : (o : Option A) → Seen o
  seen none = nothing refl
  seen (some t) = value t refl

  -- ---- a value under a test
  -- a value or none, where a test holds; else none
  unfoldable pub guard : Bool → Option A → Option A
  guard true o = o
  guard false o = none

  -- where a test gives a value it holds
  pub guard_some : (b : Bool) (o : Option A) {t : A} → guard b o ≡ some t → (b ≡ true) × (o ≡ some t)
  unfolding guard
  guard_some true o e = (refl, e)
  guard_some false o {t} e = absurd (some-ne-none t (sym e))

  -- a test that holds gives the value
  pub guard_true : {b : Bool} (o : Option A) → b ≡ true → guard b o ≡ o
  unfolding guard
  guard_true o e = rw e

  -- a test that fails gives none
  pub guard_false : {b : Bool} (o : Option A) → b ≡ false → guard b o ≡ none
  unfolding guard
  guard_false o e = rw e

  -- none stays none under a test
  pub guard_none : (b : Bool) {o : Option A} → o ≡ none → guard b o ≡ none
  unfolding guard
  guard_none true e = e
  guard_none false e = refl

  -- ---- the first of some
  -- the first value among f 0, f 1, .., f (n - 1), or none
  unfoldable pub first_of : ℕ → (ℕ → Option A) → Option A
  first_of zero f = none
  first_of (suc n) f = or_else (first_of n f) (f n)

  -- of f 0, f 1, .., f (n - 1) each is none, or f m is the first value
  pub data First (n : ℕ) (f : ℕ → Option A) (o : Option A) : Type 0 where
    nowhere : ((i : ℕ) → i < n → f i ≡ none) → o ≡ none → First n f o
    at : (m : ℕ) (t : A) → m < n → f m ≡ some t → ((i : ℕ) → i < m → f i ≡ none) → o ≡ some t → First n f o

  first_step : (n : ℕ) (f : ℕ → Option A) (o : Option A) → First n f o → Seen (f n) → First (suc n) f (or_else o (f n))
  unfolding or_else
  first_step n f o (nowhere h e) (nothing p) =
      nowhere (λ i l. below_more (λ j. f j ≡ none) n h p i (omega arith)) (rw e p)
  first_step n f o (nowhere h e) (value t p) = at n t (omega arith) p h (rw e p)
  first_step n f o (at m t l e h q) s = at m t (omega arith) e h (rw q)

  -- `first_of` finds it
  pub first : (n : ℕ) (f : ℕ → Option A) → First n f (first_of n f)
  unfolding first_of
  first zero f = nowhere (λ i l. let z : ⊥ = omega arith in absurd z) refl
  first (suc n) f = first_step n f (first_of n f) (first n f) (seen (f n))

  -- a value t of the least m below n that has one
  pub record Least (n : ℕ) (f : ℕ → Option A) (t : A) : Type 0 where
    pub m : ℕ
    pub low : m < n
    pub found : f m ≡ some t
    pub passed : (i : ℕ) → i < m → f i ≡ none

  -- what is found is the least
  pub first_some : (n : ℕ) (f : ℕ → Option A) {t : A} → first_of n f ≡ some t → Least n f t
  first_some n f e = elim (first n f) [
    | nowhere h q ↦ absurd (some_none e q)
    | at m u l p h q ↦ record { m = m; low = l; found = p ∙ ap some (mem_unique q e); passed = h }
  ]

  -- it finds the least
  pub least_first : (n : ℕ) (f : ℕ → Option A) {t : A} → Least n f t → first_of n f ≡ some t
  least_first n f k = elim (first n f) [
    | nowhere h q ↦ absurd (some_none k.found (h k.m k.low))
    | at m u l p h q ↦ (let below : m < k.m → ⊥ = λ z. some_none p (k.passed m z) in
        let above : k.m < m → ⊥ = λ z. some_none k.found (h k.m z) in
        let e : m ≡ k.m = omega arith in
        q ∙ ap some (mem_unique (rw e at p) k.found))
  ]

  -- where f m is a value, a value is found
  pub some_first : (n : ℕ) (f : ℕ → Option A) (m : ℕ) {t : A} → m < n → f m ≡ some t → Some (first_of n f)
  some_first n f m l e = elim (first n f) [
    | nowhere h q ↦ absurd (some_none e (h m l))
    | at i u k p h q ↦ (u, q)
  ]

  -- where each is none, it finds none
  pub none_first : (n : ℕ) (f : ℕ → Option A) → ((i : ℕ) → i < n → f i ≡ none) → first_of n f ≡ none
  none_first n f h = elim (first n f) [ nowhere k q ↦ q | at m u l p k q ↦ absurd (some_none p (h m l)) ]

  -- where it finds none, each is none
  pub first_none : (n : ℕ) (f : ℕ → Option A) → first_of n f ≡ none → (i : ℕ) → i < n → f i ≡ none
  first_none n f e i l = elim (seen (f i)) [
    | nothing q ↦ q
    | value t q ↦ absurd (some_none (some_first n f i l q).1 e)
  ]
