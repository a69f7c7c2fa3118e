-- Sweeping until nothing changes: what holds between two sweeps, that it ends, and what it shows in the end.
-- Assumes nothing.
use Prim.Native.Nat.{ℕ, zero, ◌+◌, ◌-◌, ◌≤◌, ◌<◌}
use mathlib.Core.Path.{◌≡◌, sym, ap, ◌∙◌}
use mathlib.Core.Bool.{Bool, true, false, true≢false}
use mathlib.Core.List.{List}
use mathlib.Core.Logic.{inl, inr}
use native.Mathlib.Omega.{arith}
use lib.ListN.{length, get_or, replicate, length-replicate}
use Rattle.facts.specs.Tests.{true_or_false}
use Rattle.facts.specs.Numbers.{less_or_not}
use Rattle.facts.specs.Lists.{zeros}
use Rattle.machine.specs.Limits.{most_entries}
use Rattle.machine.specs.Machine.{Mealy, state_at}
use Rattle.certify.specs.Recognition.Laws.{closure_in, closure_more}
use Rattle.certify.specs.Marks.{mark, Bits, count}
use Rattle.certify.specs.Marks.Laws.{count_most, count_below, count_same}
use Rattle.certify.specs.Marks.Agreement.{ByRule2, closed_complete}
use Rattle.certify.specs.Folding.{MarkedIn, Marking, Risen}
use Rattle.certify.specs.Sweep.{place_entry, Knows, CloseRequires, SweepRequires, Swept, Closed}
use Rattle.certify.proofs.Growing.{marking_flat, marking_same}

-- a cell more has 1
count_rises : (a b : List ℕ) → length a ≡ length b → ((p : ℕ) → get_or a p 0 ≡ 1 → get_or b p 0 ≡ 1) → Risen a b
    → count a < count b
count_rises a b l h r = elim (less_or_not (count a) (count b)) [
  | inl e ↦ e
  | inr e ↦ (let z : ⊥ = omega (arith, r.was, count_same a b l h e r.place r.is) in absurd z)
]

-- what holds between two sweeps
pub record Settling (M : Mealy) (xs given ms known : List ℕ) (apply changed : Bool) : Type 0 where
  pub required : CloseRequires M xs given
  pub marking : Marking M xs given ms
  pub table : length known ≡ most_entries
  pub known_bits : Bits known
  pub knows : Knows M xs given known
  pub fresh : apply ≡ false → (e : ℕ) → get_or known e 0 ≡ 0
  pub closed : changed ≡ false → (r : ℕ) → r ≤ length xs → ByRule2 xs (state_at M xs) ms r → get_or ms r 0 ≡ 1
  pub all : changed ≡ false → (i : ℕ) → i < length xs → get_or ms i 0 ≡ 1 → get_or ms (i + 1) 0 ≡ 1
      → get_or known (place_entry M xs i) 0 ≡ 0 → ⊥

pub settling_starts : {M : Mealy} {xs given : List ℕ} → CloseRequires M xs given
    → Settling M xs given given (replicate most_entries 0) false true
settling_starts h = record {
  required = h;
  marking = marking_same h.long h.bits;
  table = length-replicate most_entries zero;
  known_bits = λ e. omega (arith, zeros most_entries e);
  knows = λ e n. absurd (n (zeros most_entries e));
  fresh = λ q. zeros most_entries;
  closed = λ q. absurd (true≢false q);
  all = λ q. absurd (true≢false q);
}

module _ {M : Mealy} {xs given ms known : List ℕ} {apply changed : Bool}
    (h : Settling M xs given ms known apply changed) where
  knows_more : Knows M xs ms known
  knows_more e n =
      let w = h.knows e n in
      record {
        place = w.place;
        inside = w.inside;
        entry = w.entry;
        before = closure_more h.marking.above w.before;
        after = closure_more h.marking.above w.after;
      }

  pub settling_sweep_required : SweepRequires M apply xs ms known
  settling_sweep_required = record {
    close_requires = record {
      proper = h.required.proper;
      commands = h.required.commands;
      long = h.marking.long;
      bits = h.marking.bits;
    };
    table = h.table;
    knows = knows_more;
    known_bits = h.known_bits;
    fresh = h.fresh;
  }

  module _ {ms' known' : List ℕ} {changed' : Bool} (s : Swept M xs ms known ms' known' changed') where
    knows_flat : Knows M xs given known'
    knows_flat e n =
        let w = s.knows e n in
        record {
          place = w.place;
          inside = w.inside;
          entry = w.entry;
          before = closure_in h.marking.sound w.before;
          after = closure_in h.marking.sound w.after;
        }

    pub settling_on : Settling M xs given ms' known' true changed'
    settling_on = record {
      required = h.required;
      marking = marking_flat h.marking s.marking;
      table = s.table;
      known_bits = s.known_bits;
      knows = knows_flat;
      fresh = λ q. absurd (true≢false q);
      closed = λ f. rw (s.stays f).0 (s.closed f);
      all = λ f. rw (s.stays f).0 (s.all f);
    }

    -- the places without a mark and the entries that are not known become fewer, or the last change is over
    pub settling_less : changed ≡ true
        → (length xs + 1 - count ms') + (most_entries - count known') + mark changed'
        < (length xs + 1 - count ms) + (most_entries - count known) + mark changed
    settling_less t =
        let lm : length ms ≡ length ms' = h.marking.long ∙ sym s.marking.long in
        let lk : length known ≡ length known' = h.table ∙ sym s.table in
        let m = count_below ms ms' lm s.marking.above in
        let k = count_below known known' lk s.keeps in
        let cm = count_most ms' in
        let ck = count_most known' in
        let one : mark changed ≡ 1 = ap mark t in
        elim (true_or_false changed') [
          | inl f ↦ (let two : mark changed' ≡ 1 = ap mark f in
              elim (s.rises f) [
                | inl r ↦ omega (arith, count_rises ms ms' lm s.marking.above r, s.marking.long, s.table)
                | inr r ↦ omega (arith, count_rises known known' lk s.keeps r, s.marking.long, s.table)
              ])
          | inr f ↦ (let two : mark changed' ≡ 0 = ap mark f in
              omega (arith, ap count (s.stays f).0, ap count (s.stays f).1))
        ]

  pub settled_closed : changed ≡ false → Closed M xs given ms known
  settled_closed f = record {
    exact = record {
      long = h.marking.long;
      bits = h.marking.bits;
      sound = h.marking.sound;
      complete =
          closed_complete xs (state_at M xs) (MarkedIn given) ms h.marking.long (λ p l e. h.marking.above p e)
          (h.closed f);
    };
    knows = h.knows;
    all = h.all f;
  }
