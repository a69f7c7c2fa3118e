-- How a sweep begins, and what it shows in the end.
-- Assumes nothing.
use Prim.Native.Nat.{ℕ, zero, ◌+◌, ◌*◌, ◌≤◌, ◌<◌}
use mathlib.Core.Path.{◌≡◌, refl, sym, ap₂, ◌∙◌}
use mathlib.Core.Bool.{Bool, true, false, true≢false}
use mathlib.Core.List.{List}
use mathlib.Core.Logic.{⊎_elim}
use native.Mathlib.Omega.{arith}
use lib.ListN.{length, get_or, take, drop, replicate, length-replicate}
use Rattle.facts.specs.Tests.{true_or_false}
use Rattle.facts.specs.Numbers.{bit_one}
use Rattle.facts.specs.Lists.{part_at, zeros}
use Rattle.machine.specs.Limits.{most_sequence}
use Rattle.machine.specs.Machine.{Mealy, state_at}
use Rattle.machine.specs.Machine.Laws.{state_start, state_next}
use Rattle.certify.specs.Marks.Laws.{marked_inside}
use Rattle.certify.specs.Marks.Agreement.{ByRule2}
use Rattle.certify.specs.Folding.{same, byte_states}
use Rattle.certify.specs.Sweep.{place_entry, Merged, SweepRequires, Swept}
use Rattle.certify.proofs.Growing.{marking_same}
use Rattle.certify.proofs.Represented.{begin, Walked, folded_closed}
use Rattle.certify.proofs.Turn.{merged_still, merged_learning, Still, Head, walked_here}

-- equal parts have equal commands
commands_at : (xs : List ℕ) (p q m : ℕ) → take m (drop p xs) ≡ take m (drop q xs) → (i : ℕ) → i < m
    → get_or xs (p + i) 0 ≡ get_or xs (q + i) 0
commands_at xs p q m e i l = rw (← part_at xs p m i l, e) (part_at xs q m i l)

module _ {M : Mealy} {apply : Bool} {xs given known₀ : List ℕ} (h : SweepRequires M apply xs given known₀) where
  -- before place 0
  pub begins : {s : ℕ} → s ≡ M.start
      → Head M apply xs given known₀ given known₀ (replicate most_sequence 0) (replicate byte_states 0) 0 0 s false
  begins se = record {
    place = omega arith;
    state = se ∙ sym (state_start M xs);
    learning = record {
      marking = marking_same h.close_requires.long h.close_requires.bits;
      table = h.table;
      knows = h.knows;
      keeps = λ e q. q;
      known_bits = h.known_bits;
      risen = λ q. absurd (true≢false (sym q));
    };
    linked = record { long = length-replicate most_sequence zero; links = λ v n. absurd (n (zeros most_sequence v)) };
    topped = record {
      long = length-replicate byte_states zero;
      tops = λ x y d. let z : ⊥ = omega (arith, zeros byte_states x) in absurd z;
    };
    low_cur = omega arith;
    pair = same refl;
    still = λ q. record {
      same_marks = refl;
      same_known = refl;
      comes = begin refl refl;
      walked = λ i l n. let z : ⊥ = omega arith in absurd z;
      learnt = λ i l a b c. let z : ⊥ = omega arith in z;
      applied = λ i l o a n z. let y : ⊥ = omega arith in y;
    };
  }

  -- after the last place
  module _ {ms known alt root ms' : List ℕ} {cur t s : ℕ} {changed changed' : Bool}
      (g : Head M apply xs given known₀ ms known alt root cur t s changed) (end : length xs ≤ t)
      (merged : Merged M xs ms cur t changed ms' changed') where
    final : t ≡ length xs
    final = omega (arith, g.place)

    module _ (f : changed' ≡ false) where
      k : Still M apply xs given known₀ ms known alt root cur t
      k = g.still (merged_still merged f).0

      walked : (i : ℕ) → i < length xs → (get_or given i 0 ≡ 1 → get_or given (i + 1) 0 ≡ 1 → ⊥)
          → Walked xs (state_at M xs) given alt root i
      walked i l n =
          let m : get_or given cur 0 ≡ get_or given t 0 = rw k.same_marks at (merged_still merged f).2 in
          walked_here h k m i (omega arith) n

      follows : (a b : ℕ) → a < length xs → b < length xs → state_at M xs a ≡ state_at M xs b → get_or xs a 0 ≡ get_or xs b 0
          → state_at M xs (a + 1) ≡ state_at M xs (b + 1)
      follows a b al bl e c = state_next M xs a al ∙ ap₂ M.next e c ∙ sym (state_next M xs b bl)

      -- one command after two marked places of one state
      single : (a b : ℕ) → a < length xs → b < length xs → get_or given a 0 ≡ 1 → get_or given b 0 ≡ 1
          → state_at M xs a ≡ state_at M xs b → get_or xs a 0 ≡ get_or xs b 0 → get_or given (a + 1) 0 ≡ 1
          → get_or given (b + 1) 0 ≡ 1
      single a b al bl ma mb e c m =
          let one : place_entry M xs a ≡ place_entry M xs b = ap₂ (λ (x y : ℕ). x * M.k + y) e c in
          let known-a = k.learnt a (omega arith) ma m in
          ⊎_elim (λ (o : apply ≡ true).
          bit_one (h.close_requires.bits (b + 1)) (k.applied b (omega arith) o mb (λ z. known-a (rw one z))))
          (λ (o : apply ≡ false). absurd (known-a (h.fresh o (place_entry M xs a))))
          (true_or_false apply)

      closed : (r : ℕ) → r ≤ length xs → ByRule2 xs (state_at M xs) given r → get_or given r 0 ≡ 1
      closed r l s =
          let pl : s.p + s.m ≤ length xs =
          omega (arith, marked_inside given (s.p + s.m) s.end_marked, h.close_requires.long) in
          rw s.at
          (folded_closed xs (state_at M xs) given alt root h.close_requires.bits walked single follows s.p s.q
          s.m s.p_marked s.q_marked
          s.states s.end_marked pl (omega (arith, s.at)) (commands_at xs s.p s.q s.m s.commands))

    pub sweeps : Swept M xs given known₀ ms' known changed'
    sweeps =
        let l = merged_learning h g.learning merged in
        record {
          marking = l.marking;
          table = l.table;
          knows = l.knows;
          known_bits = l.known_bits;
          keeps = l.keeps;
          rises = l.risen;
          stays = λ f. ((merged_still merged f).1 ∙ (k f).same_marks, (k f).same_known);
          closed = closed;
          all = λ f i il a b z. (k f).learnt i (omega (arith, final)) a b (rw (k f).same_known at z);
        }
