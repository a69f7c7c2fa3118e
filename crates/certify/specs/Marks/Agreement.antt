-- What the definitions of the marks say: rule 1 and rule 2 as tests, growing, and that it ends with a set that rule 2
-- adds nothing to. From these the certify crate's proofs/MarksAgreement.antt has that the marks are those of the
-- recognised places, and that no other list is.
use Prim.Native.Nat.{ℕ, zero, suc, ◌+◌, ◌-◌, ◌≤◌}
use Rattle.std.specs.Prelude.{◌≡◌, refl, Bool, true, false, ◌||◌, List, leb, eqb, length, get_or, take, drop}
use Rattle.std.proofs.Common.{sym, ap, ◌∙◌, length-take, length-drop, ext_get_or}
use Rattle.std.proofs.Math.Logic.{inl, inr}
use native.Mathlib.Omega.{arith}
use borrow.Author.Tests.{le-leb, leb-true, eq-eqb, eqb-true, eqb-false}
use Rattle.facts.specs.Tests.{both_true, or_left, true_or_false}
use Rattle.facts.specs.Numbers.{equal_or_not}
use Rattle.facts.specs.Lists.{same, same_refl, same_equal}
use Rattle.machine.specs.Machine.{Mealy, state_at}
use Rattle.certify.specs.Recognition.{OccursAt, Closure, rule1, rule2}
use Rattle.certify.specs.Marks.{marks_by, Bits, marked, count, occurs_at, by_rule2, grown, settled, closure, marks}
use Rattle.certify.specs.Marks.Laws.{any_found, any_holds, marked_true, true_marked, marked_inside}
use Rattle.certify.specs.Marks.Laws.{marks_by_length, marks_by_bits, marks_by_one, marks_by_true, count_most}
use Rattle.certify.specs.Marks.Laws.{count_below, count_same}

-- ---- rule 1
pub occurs_true : (w xs : List ℕ) (p : ℕ) → occurs_at w xs p ≡ true → OccursAt w xs p
unfolding occurs_at
occurs_true w xs p e =
    let h = both_true (leb (p + length w) (length xs)) (same (take (length w) (drop p xs)) w) e in
    record { inside = leb-true _ _ h.0; commands = same_equal _ _ h.1 }

pub true_occurs : (w xs : List ℕ) (p : ℕ) → OccursAt w xs p → occurs_at w xs p ≡ true
unfolding occurs_at
true_occurs w xs p h = rw (le-leb _ _ h.inside, h.commands) (same_refl w)

pub occurs_fails : (w xs : List ℕ) (p : ℕ) → (OccursAt w xs p → ⊥) → false ≡ occurs_at w xs p
occurs_fails w xs p n =
    elim (true_or_false (occurs_at w xs p)) [ inl e ↦ absurd (n (occurs_true w xs p e)) | inr e ↦ sym e ]

-- ---- rule 2
module _ (xs : List ℕ) (state : ℕ → ℕ) (ms : List ℕ) where
  -- rule 2 on marked places
  pub record ByRule2 (r : ℕ) : Type 0 where
    pub p : ℕ
    pub q : ℕ
    pub m : ℕ
    pub some : 1 ≤ m
    pub p_marked : get_or ms p 0 ≡ 1
    pub q_marked : get_or ms q 0 ≡ 1
    pub states : state p ≡ state q
    pub end_marked : get_or ms (p + m) 0 ≡ 1
    pub commands : take m (drop p xs) ≡ take m (drop q xs)
    pub at : r ≡ q + m

  pub by_rule2_true : (r : ℕ) → by_rule2 xs state ms r ≡ true → ByRule2 r
  unfolding by_rule2
  by_rule2_true r e =
      let a = any_found _ _ e in
      let b = any_found _ _ a.2 in
      let l : 1 ≤ r - b.0 = omega (arith, b.1) in
      let at-r : r ≡ b.0 + (r - b.0) = omega (arith, b.1) in
      let m1 = both_true _ _ b.2 in
      let m2 = both_true _ _ m1.1 in
      let m3 = both_true _ _ m2.1 in
      let m4 = both_true _ _ m3.1 in
      record {
        p = a.0;
        q = b.0;
        m = r - b.0;
        some = l;
        p_marked = marked_true ms _ m1.0;
        q_marked = marked_true ms _ m2.0;
        states = eqb-true _ _ m3.0;
        end_marked = marked_true ms _ m4.0;
        commands = same_equal _ _ m4.1;
        at = at-r;
      }

  pub true_by_rule2 : (r : ℕ) → length ms ≡ length xs + 1 → ByRule2 r → by_rule2 xs state ms r ≡ true
  unfolding by_rule2
  true_by_rule2 r long h =
      let e : r - h.q ≡ h.m = omega arith in
      let inside = marked_inside ms (h.p + h.m) h.end_marked in
      any_holds _ _ h.p (omega (arith, inside)) (any_holds _ _ h.q (omega arith) (rw e
      (rw (
        true_marked ms h.p h.p_marked,
        true_marked ms h.q h.q_marked,
        eq-eqb _ _ h.states,
        true_marked ms (h.p + h.m) h.end_marked,
        h.commands,
      ) (same_refl (take h.m (drop h.q xs))))))

  pub grown_length : length (grown xs state ms) ≡ length xs + 1
  unfolding grown
  grown_length = marks_by_length xs _

  pub grown_bits : Bits (grown xs state ms)
  unfolding grown
  grown_bits = marks_by_bits xs _

  pub grown_keeps : (p : ℕ) → p ≤ length xs → get_or ms p 0 ≡ 1 → get_or (grown xs state ms) p 0 ≡ 1
  unfolding grown
  grown_keeps p l e = marks_by_one xs _ p l (or_left _ (true_marked ms p e))

  -- a place is marked after growing exactly where it was, or where rule 2 gives it
  pub grown_one : (r : ℕ) → r ≤ length xs → (marked ms r || by_rule2 xs state ms r) ≡ true
      → get_or (grown xs state ms) r 0 ≡ 1
  unfolding grown
  grown_one r l e = marks_by_one xs _ r l e

  pub one_grown : (r : ℕ) → get_or (grown xs state ms) r 0 ≡ 1 → (marked ms r || by_rule2 xs state ms r) ≡ true
  unfolding grown
  one_grown r e = marks_by_true xs _ r e

-- ---- growing until nothing is added
-- a list of marks of all places that rule 2 adds nothing to
Stable : List ℕ → (ℕ → ℕ) → List ℕ → Type 0
Stable xs state ms = (p : ℕ) → get_or (grown xs state ms) p 0 ≡ 1 → get_or ms p 0 ≡ 1

module _ (xs : List ℕ) (state : ℕ → ℕ) where
  -- what holds of a list and goes on to the grown one holds in the end
  settled_has : (P : List ℕ → Type 0) → ((ms : List ℕ) → P ms → P (grown xs state ms)) → (f : ℕ) (ms : List ℕ) → P ms
      → P (settled f xs state ms)
  unfolding settled
  settled_has P on zero ms h = h
  settled_has P on (suc f) ms h = elim (true_or_false (eqb (count (grown xs state ms)) (count ms))) [
    | inl e ↦ rw (settled, e) h
    | inr e ↦ rw (settled, e) (settled_has P on f (grown xs state ms) (on ms h))
  ]

  module _ (ms : List ℕ) (long : length ms ≡ length xs + 1) where
    grown_above : (p : ℕ) → get_or ms p 0 ≡ 1 → get_or (grown xs state ms) p 0 ≡ 1
    grown_above p e = grown_keeps xs state ms p (omega (arith, marked_inside ms p e)) e

    full_stable : count (grown xs state ms) ≤ count ms → Stable xs state ms
    unfolding Stable
    full_stable h = count_same ms (grown xs state ms) (omega (arith, grown_length xs state ms)) grown_above h

  -- as many turns as there are places are enough
  settled_stable : (f : ℕ) (ms : List ℕ) → length ms ≡ length xs + 1 → length xs + 1 ≤ f + count ms
      → Stable xs state (settled f xs state ms)
  unfolding settled
  settled_stable zero ms long enough =
      full_stable ms long (omega (arith, count_most (grown xs state ms), grown_length xs state ms))
  settled_stable (suc f) ms long enough = elim (true_or_false (eqb (count (grown xs state ms)) (count ms))) [
    | inl e ↦ rw (settled, e)
        (full_stable ms long (omega (arith, eqb-true (count (grown xs state ms)) (count ms) e)))
    | inr e ↦ (let more = grown_length xs state ms in
        let rise = count_below ms (grown xs state ms) (omega arith) (grown_above ms long) in
        rw (settled, e)
        (settled_stable f (grown xs state ms) more (omega (arith, eqb-false (count (grown xs state ms)) (count ms) e))))
  ]

  -- the closure: what holds of the first marks and goes on to the grown ones, and that it is stable
  module _ (base : ℕ → Bool) where
    pub closure_has : (P : List ℕ → Type 0) → ((ms : List ℕ) → P ms → P (grown xs state ms)) → P (marks_by xs base)
        → P (closure xs state base)
    unfolding closure
    closure_has P on h = settled_has P on (length xs + 1) (marks_by xs base) h

    pub closure_stable : (p : ℕ) → get_or (grown xs state (closure xs state base)) p 0 ≡ 1
        → get_or (closure xs state base) p 0 ≡ 1
    unfolding closure Stable
    closure_stable =
        settled_stable (length xs + 1) (marks_by xs base) (marks_by_length xs base) (omega arith)

-- ---- the smallest set, as marks
-- one mark for each place, 0 or 1, and 1 exactly in the smallest set
pub record Exact (xs : List ℕ) (state : ℕ → ℕ) (Base : ℕ → Type 0) (ms : List ℕ) : Type 0 where
  pub long : length ms ≡ length xs + 1
  pub bits : Bits ms
  pub sound : (p : ℕ) → get_or ms p 0 ≡ 1 → Closure xs state Base p
  pub complete : (p : ℕ) → p ≤ length xs → Closure xs state Base p → get_or ms p 0 ≡ 1

module _ (xs : List ℕ) (state : ℕ → ℕ) (Base : ℕ → Type 0) where
  -- what has both rules contains the smallest set
  pub closed_complete : (ms : List ℕ) → length ms ≡ length xs + 1 → ((p : ℕ) → p ≤ length xs → Base p → get_or ms p 0 ≡ 1)
      → ((r : ℕ) → r ≤ length xs → ByRule2 xs state ms r → get_or ms r 0 ≡ 1)
      → (p : ℕ) → p ≤ length xs → Closure xs state Base p → get_or ms p 0 ≡ 1
  closed_complete ms long one two p l (rule1 h) = one p l h
  closed_complete ms long one two r l (rule2 p q m ml hp hq e hm i same at) =
      let many = simp (length-take, length-drop) at (ap length same) in
      -- the m commands from p are as many as those from q, so that p + m is a place where q + m is
      let inside : p + m ≤ length xs = omega arith in
      two r l (record {
        p = p;
        q = q;
        m = m;
        some = ml;
        p_marked = closed_complete ms long one two p (omega arith) hp;
        q_marked = closed_complete ms long one two q (omega arith) hq;
        states = e;
        end_marked = closed_complete ms long one two (p + m) inside hm;
        commands = same;
        at = at;
      })

  -- there is one such list
  pub exact_unique : (a b : List ℕ) → Exact xs state Base a → Exact xs state Base b → a ≡ b
  exact_unique a b ha hb = ext_get_or 0 a b (ha.long ∙ sym hb.long) (λ p l. elim (equal_or_not (get_or a p 0) 1) [
    | inl x ↦ x ∙ sym (hb.complete p (omega (arith, ha.long)) (ha.sound p x))
    | inr u ↦ (let v : get_or b p 0 ≡ 1 → ⊥ = λ x. u (ha.complete p (omega (arith, ha.long)) (hb.sound p x)) in
        omega (arith, ha.bits p, hb.bits p))
  ])

-- ---- the marks of a sequence
pub marks_closure : (M : Mealy) (w xs : List ℕ) → marks M w xs ≡ closure xs (state_at M xs) (occurs_at w xs)
unfolding marks
marks_closure M w xs = refl
