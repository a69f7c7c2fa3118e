-- Byte order (§1.2), the lexicographic order of strings of one length, and the first of the shortest strings with a
-- property, with their laws.
use Rattle.std.specs.Prelude.{ℕ, zero, suc, ◌≤◌, ◌<◌, ◌≡◌, refl, List, [], ◌∷◌, length, get_or, take}
use Rattle.std.proofs.Common.{sym, ap₂, arith}

-- byte order (§1.2), of strings of one length: at the first place where they differ, u has the lower element
pub record Before (u v : List ℕ) : Type 0 where
  pub place : ℕ
  pub inside : place < length u
  pub same : take place u ≡ take place v
  pub lower : get_or u place 0 < get_or v place 0

-- with a lower first element it does
before_head : (c d : ℕ) (u v : List ℕ) → c < d → Before (c ∷ u) (d ∷ v)
before_head c d u v l = record { place = 0; inside = omega arith; same = refl; lower = l }

-- and with the same one where the rest does
before_tail : (c d : ℕ) (u v : List ℕ) → c ≡ d → Before u v → Before (c ∷ u) (d ∷ v)
before_tail c d u v e h = record {
  place = suc h.place;
  inside = omega (arith, h.inside);
  same = ap₂ ◌∷◌ e h.same;
  lower = h.lower;
}

-- how a string with a first element comes before another: by a lower first element, or behind the same one
pub data FirstLower (c d : ℕ) (u v : List ℕ) : Type 0 where
  head : c < d → FirstLower c d u v
  tail : c ≡ d → Before u v → FirstLower c d u v

pub before_cons : (c d : ℕ) (u v : List ℕ) → Before (c ∷ u) (d ∷ v) → FirstLower c d u v
before_cons c d u v h = go h.place h.inside h.same h.lower
  where
    go : (p : ℕ) → p < length (c ∷ u) → take p (c ∷ u) ≡ take p (d ∷ v) → get_or (c ∷ u) p 0 < get_or (d ∷ v) p 0
        → FirstLower c d u v
    go zero i e l = head l
    go (suc p) i e l = tail (cc) (record { place = p; inside = omega arith; same = cc; lower = l })

-- strings of one length of which neither comes before the other are the same
pub neither_before : (u v : List ℕ) → length u ≡ length v → (Before u v → ⊥) → (Before v u → ⊥) → u ≡ v
neither_before [] [] e p q = refl
neither_before [] (d ∷ v) e p q = let z : ⊥ = omega arith in absurd z
neither_before (c ∷ u) [] e p q = let z : ⊥ = omega arith in absurd z
neither_before (c ∷ u) (d ∷ v) e p q =
    let below : c < d → ⊥ = λ l. p (before_head c d u v l) in
    let above : d < c → ⊥ = λ l. q (before_head d c v u l) in
    let s : c ≡ d = omega arith in
    ap₂ ◌∷◌ s
    (neither_before u v (omega arith) (λ h. p (before_tail c d u v s h)) (λ h. q (before_tail d c v u (sym s) h)))

-- the first of the shortest strings with a property: it has it, none that has it is shorter, and none of its length
-- that has it comes before it in byte order
pub record IsFirst (P : List ℕ → Type 0) (w : List ℕ) : Type 0 where
  pub has : P w
  pub shortest : (u : List ℕ) → P u → length w ≤ length u
  pub first : (u : List ℕ) → P u → length u ≡ length w → Before u w → ⊥

-- there is one at most
pub first_one : (P : List ℕ → Type 0) {u v : List ℕ} → IsFirst P u → IsFirst P v → u ≡ v
first_one P {u} {v} h k =
    let same : length u ≡ length v = omega (arith, h.shortest v k.has, k.shortest u h.has) in
    neither_before u v same (k.first u h.has same) (h.first v k.has (sym same))
