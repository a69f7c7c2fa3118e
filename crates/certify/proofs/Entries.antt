-- The entries that a sweep knows to be verified: each has a place that shows it, and applying one is rule 2 with one
-- command. Assumes nothing.
use Prim.Native.Nat.{ℕ, ◌+◌, ◌≤◌, ◌<◌}
use mathlib.Core.Path.{◌≡◌, refl, sym, ◌∙◌}
use mathlib.Core.Bool.{Bool, true, false, true≢false}
use mathlib.Core.List.{List}
use mathlib.Core.Logic.{◌⊎◌, inl, inr}
use native.Mathlib.Omega.{arith}
use lib.ListN.{length, get_or, set, length-set}
use lib.Seq.{get_or-set_same}
use Rattle.facts.specs.Numbers.{bit_one, digits_one}
use Rattle.facts.specs.Lists.{set_cell}
use Rattle.machine.specs.Limits.{most_sequence, most_entries}
use Rattle.machine.specs.Machine.{Mealy, Commands}
use Rattle.certify.specs.Marks.{Bits}
use Rattle.certify.specs.Folding.{From, Marking, Risen, Paired, tops, step}
use Rattle.certify.specs.Sweep.{place_entry, Witness, Knows, SweepRequires, Learnt}
use Rattle.certify.proofs.Marking.{marking_more, was_zero}
use Rattle.certify.proofs.Paired.{paired_carries}

-- what holds of marks and known entries during a sweep that knew these at its start
pub record Learning (M : Mealy) (xs given known₀ ms known : List ℕ) (changed : Bool) : Type 0 where
  pub marking : Marking M xs given ms
  pub table : length known ≡ most_entries
  pub knows : Knows M xs given known
  pub keeps : (e : ℕ) → get_or known₀ e 0 ≡ 1 → get_or known e 0 ≡ 1
  pub known_bits : Bits known
  pub risen : changed ≡ true → (Risen given ms) ⊎ (Risen known₀ known)

-- a known entry shows the place after t
pub applied : {M : Mealy} {xs given : List ℕ} → Commands most_sequence M.k xs
    → (t : ℕ) → t < length xs → From M xs given t → Witness M xs given (place_entry M xs t) → From M xs given (t + 1)
applied {M} {xs} {given} commands t tl ft h =
    let low = commands.low in
    let e = digits_one M.k _ _ _ _ (low h.place h.inside) (low t tl) h.entry in
    let pair : Paired M xs given (h.place + 1) (t + 1) =
    step h.place t (tops h.before ft e.0) h.inside tl e.1 refl refl in
    paired_carries pair h.after

module _ {M : Mealy} {apply : Bool} {xs given known₀ : List ℕ} (required : SweepRequires M apply xs given known₀) where
  module _ {ms known : List ℕ} {e t : ℕ} {changed : Bool} (tl : t < length xs) (el : e < most_entries)
      (at : place_entry M xs t ≡ e) (h : Learning M xs given known₀ ms known changed) where
    -- a new entry
    learns_one : (get_or ms t 0 ≡ 0 → ⊥) → (get_or ms (t + 1) 0 ≡ 0 → ⊥) → get_or known e 0 ≡ 0
        → Learning M xs given known₀ ms (set known e 1) true
    learns_one n n' z =
        let g = h.marking in
        let inside : e < length known = omega (arith, h.table) in
        record {
          marking = g;
          table = length-set known e 1 ∙ h.table;
          knows =
              set_cell (λ x y. (y ≡ 0 → ⊥) → Witness M xs given x) known e 1 inside (λ x o. h.knows x)
              (λ o. record {
                place = t;
                inside = tl;
                entry = at;
                before = g.sound t (bit_one (g.bits t) n);
                after = g.sound (t + 1) (bit_one (g.bits (t + 1)) n');
              });
          keeps = set_cell (λ x y. get_or known₀ x 0 ≡ 1 → y ≡ 1) known e 1 inside (λ x o. h.keeps x) (λ q. refl);
          known_bits = set_cell (λ x y. y ≤ 1) known e 1 inside (λ x o. h.known_bits x) (omega arith);
          risen = λ q.
              inr (record {
                place = e;
                was = was_zero known₀ known required.known_bits h.keeps e z;
                is = get_or-set_same known e 1 0 inside;
              });
        }

    -- a known entry applied
    applies_one : (get_or ms t 0 ≡ 0 → ⊥) → get_or ms (t + 1) 0 ≡ 0 → (get_or known e 0 ≡ 0 → ⊥)
        → Learning M xs given known₀ (set ms (t + 1) 1) known true
    applies_one n z y =
        let g = h.marking in
        let ft = g.sound t (bit_one (g.bits t) n) in
        let known_at : Witness M xs given (place_entry M xs t) = rw at (h.knows e y) in
        let fn = applied required.close_requires.commands t tl ft known_at in
        record {
          marking = marking_more (omega arith) fn g;
          table = h.table;
          knows = h.knows;
          keeps = h.keeps;
          known_bits = h.known_bits;
          risen = λ q. inl (record {
            place = t + 1;
            was = was_zero given ms required.close_requires.bits g.above (t + 1) z;
            is = get_or-set_same ms (t + 1) 1 0 (omega (arith, g.long));
          });
        }

    pub learning : {ms' known' : List ℕ} {changed' : Bool} → Learnt apply ms known e t changed ms' known' changed'
        → Learning M xs given known₀ ms' known' changed'
    learning (Learnt.unmarked z me ke ce) = rw (me, ke, ce) h
    learning (Learnt.knew n y me ke ce) = rw (me, ke, ce) h
    learning (Learnt.unknown z y me ke ce) = rw (me, ke, ce) h
    learning (Learnt.waits z y me ke ce) = rw (me, ke, ce) h
    learning (Learnt.learns n n' z me ke ce) = rw (me, ke, ce) (learns_one n n' z)
    learning (Learnt.applies n z y me ke ce) = rw (me, ke, ce) (applies_one n z y)

-- nothing changed: marks and known entries are as they were; the entry between two marks is known, and a
-- known one has been applied
pub record Unchanged (apply : Bool) (ms known : List ℕ) (e t : ℕ) (changed : Bool) (ms' known' : List ℕ) : Type 0 where
  pub before : changed ≡ false
  pub same_marks : ms' ≡ ms
  pub same_known : known' ≡ known
  pub learnt : get_or ms t 0 ≡ 1 → get_or ms (t + 1) 0 ≡ 1 → get_or known e 0 ≡ 0 → ⊥
  pub applied : apply ≡ true → get_or ms t 0 ≡ 1 → (get_or known e 0 ≡ 0 → ⊥) → get_or ms (t + 1) 0 ≡ 0 → ⊥

pub learnt_still : {apply : Bool} {ms known ms' known' : List ℕ} {e t : ℕ} {changed changed' : Bool}
    → Learnt apply ms known e t changed ms' known' changed' → changed' ≡ false
    → Unchanged apply ms known e t changed ms' known'
learnt_still (Learnt.unmarked z me ke ce) f = record {
  before = sym ce ∙ f;
  same_marks = me;
  same_known = ke;
  learnt = λ a b c. let y : ⊥ = omega arith in y;
  applied = λ o a n b. let y : ⊥ = omega arith in y;
}
learnt_still (Learnt.knew n y me ke ce) f = record {
  before = sym ce ∙ f;
  same_marks = me;
  same_known = ke;
  learnt = λ a b c. n c;
  applied = λ o a x b. y b;
}
learnt_still (Learnt.unknown z y me ke ce) f = record {
  before = sym ce ∙ f;
  same_marks = me;
  same_known = ke;
  learnt = λ a b c. let y : ⊥ = omega arith in y;
  applied = λ o a n b. n y;
}
learnt_still (Learnt.waits z y me ke ce) f = record {
  before = sym ce ∙ f;
  same_marks = me;
  same_known = ke;
  learnt = λ a b c. let y : ⊥ = omega arith in y;
  applied = λ o a n b. true≢false (sym o ∙ y);
}
learnt_still (Learnt.learns n n' z me ke ce) f = absurd (true≢false (sym ce ∙ f))
learnt_still (Learnt.applies n z y me ke ce) f = absurd (true≢false (sym ce ∙ f))
