-- The first string, in byte order, of m elements below k that an automaton accepts: from a state s it takes one element
-- after the other, as long as the states are inside, and accepts by the state in which it ends. Transfers (§6.1) and
-- words (§14) are found by it. Its theorems are in proofs/FirstStringLaws.antt.
use Prim.Native.Nat.{ℕ, zero, suc, ◌<◌}
use Rattle.std.specs.Prelude.{◌≡◌, Bool, true, ◌&&◌, List, [], ◌∷◌}
use Rattle.std.proofs.Math.Option.{Option, none, some, map}
use Rattle.facts.specs.FirstOf.{guard, first_of}

module _ {S : Type 0} (k : ℕ) (inside : S → Bool) (step : S → ℕ → S) (accepts : S → Bool) where
  -- the string is accepted from s
  abbrev pub Accepted : S → List ℕ → Type 0
  Accepted s [] = (inside s && accepts s) ≡ true
  Accepted s (c ∷ u) = (inside s ≡ true) × (c < k) × Accepted (step s c) u

  -- of the strings of m elements that are accepted from s, the first in byte order. One of m + 1 elements begins with
  -- the least element behind which there is one of m
  unfoldable pub first_string : ℕ → S → Option (List ℕ)
  first_string zero s = guard (inside s && accepts s) (some [])
  first_string (suc m) s = guard (inside s) (first_of k (λ c. map (◌∷◌ c) (first_string m (step s c))))

  -- a string of m + 1 elements: the least element with a string of m elements behind it
  pub record Step (m : ℕ) (s : S) (t : List ℕ) : Type 0 where
    pub inner : inside s ≡ true
    pub element : ℕ
    pub rest : List ℕ
    pub low : element < k
    pub found : first_string m (step s element) ≡ some rest
    pub string : t ≡ element ∷ rest
    pub passed : (c : ℕ) → c < element → first_string m (step s c) ≡ none
