-- The length of the longest common prefix of two lists: the first place at which they differ, or the length of the
-- shorter one. Judging (§7) and the desk (§13.1) compare answers by it.
use Rattle.std.specs.Prelude.{ℕ, zero, suc, ◌≤◌, ◌<◌, ◌≡◌, refl, true, false, List, [], ◌∷◌, ◌++◌, eqb, length}
use Rattle.std.specs.Prelude.{get_or}
use Rattle.std.proofs.Common.{sym, ap, ◌∙◌, inl, inr, arith, length-append, eqb-true, eq-eqb, ne_eqb}
use Rattle.std.proofs.Math.ListN.{get_or-append}
use Rattle.std.proofs.lemmas.Bool.{eqb-false}
use Rattle.facts.specs.Tests.{true_or_false}

-- how many elements from the front are equal
unfoldable pub agreed : List ℕ → List ℕ → ℕ
agreed [] ys = 0
agreed (x ∷ xs) [] = 0
agreed (x ∷ xs) (y ∷ ys) = elim (eqb x y) [ true ↦ suc (agreed xs ys) | false ↦ 0 ]

-- the lists are equal before place p, and differ there if both have that place
pub record Agreed (xs ys : List ℕ) (p : ℕ) : Type 0 where
  pub in_first : p ≤ length xs
  pub in_second : p ≤ length ys
  pub before : (i : ℕ) → i < p → get_or xs i 0 ≡ get_or ys i 0
  pub here : p < length xs → p < length ys → get_or xs p 0 ≡ get_or ys p 0 → ⊥

agreed_none : (xs ys : List ℕ) → (0 < length xs → 0 < length ys → get_or xs 0 0 ≡ get_or ys 0 0 → ⊥) → Agreed xs ys 0
agreed_none xs ys h = record {
  in_first = omega arith;
  in_second = omega arith;
  before = λ i l. absurd (omega arith);
  here = h;
}

agreed_more : (x y : ℕ) (xs ys : List ℕ) (p : ℕ) → x ≡ y → Agreed xs ys p → Agreed (x ∷ xs) (y ∷ ys) (suc p)
agreed_more x y xs ys p e h = record {
  in_first = omega (arith, h.in_first);
  in_second = omega (arith, h.in_second);
  before = before;
  here = λ k l q. h.here (omega arith) (omega arith) q;
}
  where
    before : (i : ℕ) → i < suc p → get_or (x ∷ xs) i 0 ≡ get_or (y ∷ ys) i 0
    before zero l = e
    before (suc i) l = h.before i (omega arith)

pub agreed_holds : (xs ys : List ℕ) → Agreed xs ys (agreed xs ys)
unfolding agreed
agreed_holds [] ys = agreed_none [] ys (λ k l q. omega arith)
agreed_holds (x ∷ xs) [] = agreed_none (x ∷ xs) [] (λ k l q. omega arith)
agreed_holds (x ∷ xs) (y ∷ ys) = elim (true_or_false (eqb x y)) [
  | inl e ↦ rw (agreed, e) (agreed_more x y xs ys (agreed xs ys) (eqb-true x y e) (agreed_holds xs ys))
  | inr e ↦ rw (agreed, e) (agreed_none (x ∷ xs) (y ∷ ys) (λ k l q. eqb-false x y e q))
]

-- there is one such place
agreed_one : (xs ys : List ℕ) (p q : ℕ) → Agreed xs ys p → Agreed xs ys q → p < q → ⊥
agreed_one xs ys p q h k l = h.here (omega (arith, k.in_first)) (omega (arith, k.in_second)) (k.before p l)

pub agreed_is : (xs ys : List ℕ) (p : ℕ) → Agreed xs ys p → p ≡ agreed xs ys
agreed_is xs ys p h =
    let a = agreed_one xs ys p (agreed xs ys) h (agreed_holds xs ys) in
    let b = agreed_one xs ys (agreed xs ys) p (agreed_holds xs ys) h in
    omega arith

-- ---- of lists with a known common prefix
-- a list and its prefix agree as far as the prefix goes
pub agreed_front : (xs zs : List ℕ) → agreed (xs ++ zs) xs ≡ length xs
unfolding agreed
agreed_front [] [] = refl
agreed_front [] (z ∷ zs) = refl
agreed_front (x ∷ xs) zs = rw (agreed, eq-eqb x x refl) (ap suc (agreed_front xs zs))

-- lists that differ behind a common prefix agree as far as that goes
pub agreed_then : (xs : List ℕ) (a b : ℕ) (us vs : List ℕ) → (a ≡ b → ⊥)
    → agreed (xs ++ (a ∷ us)) (xs ++ (b ∷ vs)) ≡ length xs
unfolding agreed
agreed_then [] a b us vs d = rw (agreed, ne_eqb a b d)
agreed_then (x ∷ xs) a b us vs d = rw (agreed, eq-eqb x x refl) (ap suc (agreed_then xs a b us vs d))

-- what follows the second list changes nothing where it has all of the first, or where they differ in it
agreed_same : (xs ys zs : List ℕ)
    → (agreed xs ys < length xs → get_or xs (agreed xs ys) 0 ≡ get_or (ys ++ zs) (agreed xs ys) 0 → ⊥)
    → agreed xs (ys ++ zs) ≡ agreed xs ys
agreed_same xs ys zs d =
    let h = agreed_holds xs ys in
    sym (agreed_is xs (ys ++ zs) (agreed xs ys) (record {
      in_first = h.in_first;
      in_second = omega (arith, h.in_second, length-append ys zs);
      before = λ i k. h.before i k ∙ sym (get_or-append ys zs 0 i (omega (arith, h.in_second)));
      here = λ k m. d k;
    }))

pub agreed_longer : (xs ys zs : List ℕ) → length xs ≤ agreed xs ys → agreed xs (ys ++ zs) ≡ agreed xs ys
agreed_longer xs ys zs l = agreed_same xs ys zs (λ k q. omega arith)

pub agreed_differ : (xs ys zs : List ℕ) → agreed xs ys < length ys → agreed xs (ys ++ zs) ≡ agreed xs ys
agreed_differ xs ys zs l =
    agreed_same xs ys zs (λ k q. (agreed_holds xs ys).here k l (q ∙ get_or-append ys zs 0 (agreed xs ys) l))
