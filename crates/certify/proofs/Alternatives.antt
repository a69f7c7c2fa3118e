-- Chains of alternatives: going on along one, and the loop that does so.
-- Assumes nothing.
use Prim.Native.Nat.{ℕ, ◌≤◌, ◌<◌}
use mathlib.Core.Path.{◌≡◌, refl, ap, ◌∙◌}
use mathlib.Core.List.{List}
use native.Mathlib.Omega.{arith}
use lib.Arith.{lt_of_le-ne}
use lib.ListN.{length, get_or, set, replicate}
use Rattle.facts.specs.Lists.{zeros, set_cell}
use Rattle.certify.specs.Folding.{Past, here, past, Rising}

-- one alternative further
pub past_on : {xs alt : List ℕ} {c r v : ℕ} → Past xs alt c r v → (get_or xs v 0 ≡ c → ⊥) → (get_or alt v 0 ≡ 0 → ⊥)
    → Past xs alt c r (get_or alt v 0)
past_on (here e) o n = rw e (past o n (here refl))
past_on (past o' n' h) o n = past o' n' (past_on h o n)

-- what the loop along a chain keeps
pub record Along (xs alt : List ℕ) (r c v : ℕ) : Type 0 where
  pub inside : v < length xs
  pub path : Past xs alt c r v

module _ {xs alt : List ℕ} {r c v : ℕ} (h : Along xs alt r c v) where
  module _ (rising : Rising xs alt) {u : ℕ} (e : u ≡ get_or alt v 0) (n : u ≡ 0 → ⊥) where
    along_less : (v < u) × (u < length xs)
    along_less = rw e (rising v (λ q. n (e ∙ q)))

    -- one alternative further
    pub along_on : (get_or xs v 0 ≡ c → ⊥) → Along xs alt r c u
    along_on o = record { inside = along_less.1; path = rw e (past_on h.path o (λ q. n (e ∙ q))) }

-- no place has an alternative yet
pub rising_none : (xs : List ℕ) (n : ℕ) → Rising xs (replicate n 0)
rising_none xs n v o = absurd (o (zeros n v))

-- places that differ in their commands are not one
pub below : (xs : List ℕ) (v t : ℕ) → v ≤ t → (get_or xs v 0 ≡ get_or xs t 0 → ⊥) → v < t
below xs v t l o = lt_of_le-ne l (λ e. o (ap (λ (i : ℕ). get_or xs i 0) e))

module _ {xs alt : List ℕ} {t : ℕ} (upto : (v : ℕ) → get_or alt v 0 ≤ t) where
  pub past_upto : {c r v : ℕ} → Past xs alt c r v → r ≤ t → v ≤ t
  past_upto (here e) l = omega arith
  past_upto (past o n k) l = past_upto k (upto _)

  -- t becomes the alternative of a place that has another command
  pub rising_on : {c r v : ℕ} → Rising xs alt → Past xs alt c r v → r ≤ t → t < length xs
      → (get_or xs v 0 ≡ get_or xs t 0 → ⊥) → v < length alt → Rising xs (set alt v t)
  rising_on {v = v} h k rl tl o vl =
      set_cell (λ u x. (x ≡ 0 → ⊥) → (u < x) × (x < length xs)) alt v t vl
      (λ u q. h u) (λ n. (below xs v t (past_upto k rl) o, tl))
