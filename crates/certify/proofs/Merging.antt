-- Where the sweep comes to t from cur and their marks differ: the one without gets its mark, and cur's is followed.
-- Assumes nothing.
use Prim.Native.Nat.{ℕ}
use mathlib.Core.Path.{◌≡◌, refl, sym, ◌∙◌}
use mathlib.Core.Bool.{Bool, true}
use mathlib.Core.List.{List}
use native.Mathlib.Omega.{arith}
use lib.ListN.{get_or, set}
use lib.Seq.{get_or-set_same}
use Rattle.facts.specs.Numbers.{bit_one}
use Rattle.machine.specs.Machine.{Mealy}
use Rattle.certify.specs.Folding.{From, Marking}
use Rattle.certify.specs.Propagation.{PropagateRequires}
use Rattle.certify.specs.Sweep.{MergeRequires, Merged, differ}
use Rattle.certify.proofs.Growing.{marking_same, marking_flat, folds_more}
use Rattle.certify.proofs.Marking.{marking_more, both_in}
use Rattle.certify.proofs.Paired.{paired_state}

module _ {M : Mealy} {xs ms alt root : List ℕ} {s cur t : ℕ} (h : MergeRequires M xs ms alt root s cur t)
    (n : get_or ms cur 0 ≡ get_or ms t 0 → ⊥) where
  -- both places are in the closure
  inside : (From M xs ms cur) × (From M xs ms t)
  inside = both_in (marking_same h.long h.bits) h.pair n

  -- cur gets its mark
  back : Marking M xs ms (set ms cur 1)
  back = marking_more (omega (arith, h.low_cur, h.place)) inside.0 (marking_same h.long h.bits)

  back_marked : get_or (set ms cur 1) cur 0 ≡ 1
  back_marked = get_or-set_same ms cur 1 0 (omega (arith, h.long, h.low_cur, h.place))

  -- what is asked where it is followed, and what that gives
  pub back_required : PropagateRequires M xs (set ms cur 1) alt root cur s
  back_required = record {
    folds = folds_more back.above h.folds;
    long = back.long;
    bits = back.bits;
    marked = back_marked;
    state = h.state ∙ sym (paired_state h.pair);
  }

  pub merges_back : {ms' : List ℕ} {changed : Bool} → get_or ms cur 0 ≡ 0 → Marking M xs (set ms cur 1) ms'
      → Merged M xs ms cur t changed ms' true
  merges_back z rest =
      differ (marking_flat back rest) (record { place = cur; was = z; is = rest.above cur back_marked }) refl

  -- t gets its mark
  pub merges_on : {changed : Bool} → (get_or ms cur 0 ≡ 0 → ⊥) → Merged M xs ms cur t changed (set ms t 1) true
  merges_on o =
      let not-one : get_or ms t 0 ≡ 1 → ⊥ = λ e. n (bit_one (h.bits cur) o ∙ sym e) in
      let unmarked : get_or ms t 0 ≡ 0 = omega (arith, h.bits t) in
      differ (marking_more h.place inside.1 (marking_same h.long h.bits))
      (record { place = t; was = unmarked; is = get_or-set_same ms t 1 0 (omega (arith, h.long, h.place)) }) refl
