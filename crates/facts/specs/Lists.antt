-- Lists of numbers: whether two are equal, the elements before a place and from it on, parts, cells after a store,
-- lists whose elements are all below a bound, and a property of each element.
use Rattle.std.specs.Prelude.{ℕ, zero, suc, ◌+◌, ◌<◌, ◌≡◌, refl, Bool, true, false, ◌&&◌, ◌||◌, List, [], ◌∷◌, ◌++◌}
use Rattle.std.specs.Prelude.{eqb, length, get_or, set, take, drop, replicate}
use Rattle.std.proofs.Common.{sym, ap, ap₂, subst, ◌∙◌, true≢false, inl, inr, arith, add-one, length-take}
use Rattle.std.proofs.Common.{length-drop, get_or-take, get_or-drop, get_or-set_same, get_or-set_other, take-suc}
use Rattle.std.proofs.Common.{take-suc-set, drop-cons, below_more, eq-eqb, eqb-true}
use Rattle.std.proofs.Math.Bool.{or-false}
use Rattle.facts.specs.Tests.{both_true, either_true}
use Rattle.facts.specs.Numbers.{equal_or_not}

-- ---- equal lists
-- whether two lists are equal
abbrev pub same : List ℕ → List ℕ → Bool
same [] [] = true
same [] (y ∷ ys) = false
same (x ∷ xs) [] = false
same (x ∷ xs) (y ∷ ys) = eqb x y && same xs ys

pub same_refl : (xs : List ℕ) → same xs xs ≡ true
same_refl [] = refl
same_refl (x ∷ xs) = rw (eq-eqb x x refl, same_refl xs)

pub same_equal : (xs ys : List ℕ) → same xs ys ≡ true → xs ≡ ys
same_equal [] [] e = refl
same_equal [] (y ∷ ys) e = cc
same_equal (x ∷ xs) [] e = cc
same_equal (x ∷ xs) (y ∷ ys) e =
    let h = both_true (eqb x y) (same xs ys) e in
    ap₂ ◌∷◌ (eqb-true x y h.0) (same_equal xs ys h.1)

-- ---- elements
-- whether a number is an element of a list
abbrev pub among : ℕ → List ℕ → Bool
among x [] = false
among x (y ∷ ys) = eqb x y || among x ys

-- of a list of one
pub among_one : (x y : ℕ) → among x (y ∷ []) ≡ eqb x y
among_one x y = or-false (eqb x y)

-- ---- the first elements and one more, the same where it is stored, and the elements from a place on
pub take_more : (xs : List ℕ) (i : ℕ) → i < length xs → take (i + 1) xs ≡ take i xs ++ (get_or xs i 0 ∷ [])
take_more xs i l = ap (λ (n : ℕ). take n xs) (add-one i) ∙ take-suc xs i 0 l

pub take_stored : (xs : List ℕ) (i v : ℕ) → i < length xs → take (i + 1) (set xs i v) ≡ take i xs ++ (v ∷ [])
take_stored xs i v l = ap (λ (n : ℕ). take n (set xs i v)) (add-one i) ∙ take-suc-set xs i v l

pub rest_cons : (xs : List ℕ) (i : ℕ) → i < length xs → drop i xs ≡ get_or xs i 0 ∷ drop (i + 1) xs
rest_cons xs i l = drop-cons xs i 0 l ∙ ap (λ (x : ℕ). get_or xs i 0 ∷ drop x xs) (sym (add-one i))

-- ---- an element of a part
pub part_at : (xs : List ℕ) (p m i : ℕ) → i < m → get_or (take m (drop p xs)) i 0 ≡ get_or xs (p + i) 0
part_at xs p m i l = get_or-take m (drop p xs) i 0 l ∙ get_or-drop p xs i 0

-- ---- cells of zeros
pub zeros : (n i : ℕ) → get_or (replicate n zero) i 0 ≡ 0
zeros zero i = refl
zeros (suc n) zero = refl
zeros (suc n) (suc i) = zeros n i

-- ---- cells after a store
module _ (P : ℕ → ℕ → Type 0) (xs : List ℕ) (i v : ℕ) (l : i < length xs) where
  -- a property of the cells at other places, and of the one that is stored
  pub set_cell : ((j : ℕ) → (j ≡ i → ⊥) → P j (get_or xs j 0)) → P i v → (j : ℕ) → P j (get_or (set xs i v) j 0)
  set_cell others here j = elim (equal_or_not j i) [
    | inl e ↦ rw (e, get_or-set_same xs i v 0 l) here
    | inr n ↦ rw (get_or-set_other xs i j v 0 n) (others j n)
  ]

  -- a property of the cells before i, and one more
  pub set_more : ((j : ℕ) → j < i → P j (get_or xs j 0)) → P i v → (j : ℕ) → j < i + 1 → P j (get_or (set xs i v) j 0)
  set_more before here =
      below_more (λ j. P j (get_or (set xs i v) j 0)) i
      (λ j k. rw (get_or-set_other xs i j v 0 (λ e. omega arith)) (before j k))
      (rw (get_or-set_same xs i v 0 l) here)

-- ---- lists below a bound
-- every element of a list is below k
abbrev pub Below : ℕ → List ℕ → Type 0
Below k w = (i : ℕ) → i < length w → get_or w i 0 < k

-- of one element more in front
pub below_cons : (k c : ℕ) (w : List ℕ) → c < k → Below k w → Below k (c ∷ w)
below_cons k c w l h zero i = l
below_cons k c w l h (suc j) i = h j (omega arith)

pub below_head : (k c : ℕ) (w : List ℕ) → Below k (c ∷ w) → c < k
below_head k c w h = h 0 (omega arith)

pub below_tail : (k c : ℕ) (w : List ℕ) → Below k (c ∷ w) → Below k w
below_tail k c w h i l = h (suc i) (omega arith)

-- of two lists, of the first elements of one, and of the later ones
pub low_append : (k : ℕ) (u v : List ℕ) → Below k u → Below k v → Below k (u ++ v)
low_append k [] v p q i l = q i l
low_append k (c ∷ u) v p q zero l = p 0 (omega arith)
low_append k (c ∷ u) v p q (suc i) l = low_append k u v (λ j m. p (suc j) (omega arith)) q i (omega arith)

pub low_take : (k n : ℕ) (u : List ℕ) → Below k u → Below k (take n u)
low_take k n u h i l = let m = simp length-take at l in rw (get_or-take n u i 0 (omega arith)) (h i (omega arith))

pub low_drop : (k n : ℕ) (u : List ℕ) → Below k u → Below k (drop n u)
low_drop k n u h i l = let m = simp length-drop at l in rw (get_or-drop n u i 0) (h (n + i) (omega arith))

-- ---- each element of a list
-- each has a property
abbrev pub Each : (ℕ → Type 0) → List ℕ → Type 0
Each P [] = Unit {0}
Each P (x ∷ xs) = P x × Each P xs

module _ (P : ℕ → Type 0) where
  -- of two lists one behind the other
  pub each_append : (xs ys : List ℕ) → Each P xs → Each P ys → Each P (xs ++ ys)
  each_append [] ys h k = k
  each_append (x ∷ xs) ys h k = (h.0, each_append xs ys h.1 k)

  pub append_each : (xs ys : List ℕ) → Each P (xs ++ ys) → Each P xs × Each P ys
  append_each [] ys h = (tt, h)
  append_each (x ∷ xs) ys h = let r = append_each xs ys h.1 in ((h.0, r.0), r.1)

  -- of one that is among them
  pub each_among : (x : ℕ) (xs : List ℕ) → Each P xs → among x xs ≡ true → P x
  each_among x [] h e = absurd (true≢false (sym e))
  each_among x (y ∷ ys) h e = elim (either_true (eqb x y) (among x ys) e) [
    | inl q ↦ subst P (sym (eqb-true x y q)) h.0
    | inr q ↦ each_among x ys h.1 q
  ]
