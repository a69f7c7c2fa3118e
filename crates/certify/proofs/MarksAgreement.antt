-- The marks are those of the recognised places, and no other list is: the executable definition and the
-- rules agree at every place.
use Prim.Native.Nat.{ℕ, ◌+◌, ◌≤◌}
use Rattle.std.specs.Prelude.{◌≡◌, Bool, true, List, ◌⊎◌, length, get_or}
use Rattle.std.proofs.Math.Logic.{inl, inr}
use native.Mathlib.Omega.{arith}
use Rattle.facts.specs.Tests.{either_true, or_right}
use Rattle.machine.specs.Machine.{Mealy, state_at}
use Rattle.certify.specs.Recognition.{OccursAt, Closure, rule1, rule2, Recognised}
use Rattle.certify.specs.Recognition.Laws.{closure_recognised, recognised_closure, recognised_inside}
use Rattle.certify.specs.Marks.{marks_by, Bits, marked, occurs_at, by_rule2, grown, closure, marks}
use Rattle.certify.specs.Marks.Laws.{marked_true, marked_inside}
use Rattle.certify.specs.Marks.Laws.{marks_by_length, marks_by_bits, marks_by_one, marks_by_true}
use Rattle.certify.specs.Marks.Agreement.{occurs_true, true_occurs, ByRule2, by_rule2_true, true_by_rule2}
use Rattle.certify.specs.Marks.Agreement.{grown_length, grown_bits, grown_keeps, grown_one, one_grown}
use Rattle.certify.specs.Marks.Agreement.{closure_has, closure_stable, Exact, closed_complete, exact_unique}
use Rattle.certify.specs.Marks.Agreement.{marks_closure}

-- ---- rule 2
module _ (xs : List ℕ) (state : ℕ → ℕ) (ms : List ℕ) where
  grown_adds : (r : ℕ) → r ≤ length xs → length ms ≡ length xs + 1 → ByRule2 xs state ms r
      → get_or (grown xs state ms) r 0 ≡ 1
  grown_adds r l long h = grown_one xs state ms r l (or_right (marked ms r) (true_by_rule2 xs state ms r long h))

  grown_from : (r : ℕ) → get_or (grown xs state ms) r 0 ≡ 1 → (get_or ms r 0 ≡ 1) ⊎ (ByRule2 xs state ms r)
  grown_from r e = elim (either_true (marked ms r) (by_rule2 xs state ms r) (one_grown xs state ms r e)) [
    | inl h ↦ inl (marked_true ms r h)
    | inr h ↦ inr (by_rule2_true xs state ms r h)
  ]

-- ---- the smallest set, as marks
module _ (xs : List ℕ) (state : ℕ → ℕ) (Base : ℕ → Type 0) where
  module _ (base : ℕ → Bool) (from : (p : ℕ) → base p ≡ true → Base p) (to : (p : ℕ) → Base p → base p ≡ true) where
    -- what stays so while a list grows
    record Growing (ms : List ℕ) : Type 0 where
      long : length ms ≡ length xs + 1
      bits : Bits ms
      sound : (p : ℕ) → get_or ms p 0 ≡ 1 → Closure xs state Base p
      holds : (p : ℕ) → p ≤ length xs → Base p → get_or ms p 0 ≡ 1

    grows : (ms : List ℕ) → Growing ms → Growing (grown xs state ms)
    grows ms h = record {
      long = grown_length xs state ms;
      bits = grown_bits xs state ms;
      sound = λ p e. elim (grown_from xs state ms p e) [
        | inl q ↦ h.sound p q
        | inr s ↦ rule2 s.p s.q s.m s.some (h.sound _ s.p_marked) (h.sound _ s.q_marked)
            s.states (h.sound _ s.end_marked)
            (omega (arith, marked_inside (grown xs state ms) p e, grown_length xs state ms)) s.commands s.at
      ];
      holds = λ p l b. grown_keeps xs state ms p l (h.holds p l b);
    }

    begun : Growing (marks_by xs base)
    begun = record {
      long = marks_by_length xs base;
      bits = marks_by_bits xs base;
      sound = λ p e. rule1 (from p (marks_by_true xs base p e));
      holds = λ p l b. marks_by_one xs base p l (to p b);
    }

    pub closure_exact : Exact xs state Base (closure xs state base)
    closure_exact =
        let h = closure_has xs state base Growing grows begun in
        let still = closure_stable xs state base in
        record {
          long = h.long;
          bits = h.bits;
          sound = h.sound;
          complete = closed_complete xs state Base _ h.long h.holds
              (λ r l s. still r (grown_adds xs state _ r l h.long s));
        }

-- ---- the marks of a sequence
module _ (M : Mealy) (w xs : List ℕ) where
  pub marks_exact : Exact xs (state_at M xs) (OccursAt w xs) (marks M w xs)
  marks_exact =
      rw (marks_closure M w xs)
      (closure_exact xs (state_at M xs) (OccursAt w xs) (occurs_at w xs) (occurs_true w xs) (true_occurs w xs))

  pub marks_unique : (ms : List ℕ) → Exact xs (state_at M xs) (OccursAt w xs) ms → ms ≡ marks M w xs
  marks_unique ms h = exact_unique xs (state_at M xs) (OccursAt w xs) ms (marks M w xs) h marks_exact

  pub marks_length : length (marks M w xs) ≡ length xs + 1
  marks_length = marks_exact.long

  -- ---- a mark is 1 exactly where the place is recognised, and else 0
  pub marked_recognised : (p : ℕ) → get_or (marks M w xs) p 0 ≡ 1 → Recognised M w xs p
  marked_recognised p e = closure_recognised M w xs p (marks_exact.sound p e)

  pub recognised_marked : (p : ℕ) → Recognised M w xs p → get_or (marks M w xs) p 0 ≡ 1
  recognised_marked p h = marks_exact.complete p (recognised_inside M w xs p h) (recognised_closure M w xs p h)

  -- every mark is 0 or 1
  pub marks_bits : Bits (marks M w xs)
  marks_bits = marks_exact.bits
