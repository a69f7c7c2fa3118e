-- Every entry known: each place behind a marked one is recognised, so the marks can be closed without a further sweep.
-- Assumes nothing.
use Prim.Native.Nat.{ℕ, zero, suc, ◌+◌, ◌*◌, ◌-◌, ◌≤◌, ◌<◌}
use mathlib.Core.Path.{◌≡◌, ◌∙◌}
use mathlib.Core.Bool.{Bool}
use mathlib.Core.List.{List}
use native.Mathlib.Nat.{add-zero}
use native.Mathlib.Omega.{arith}
use lib.Arith.{digits_lt}
use lib.ListN.{length, get_or}
use Rattle.machine.specs.Machine.{Mealy, state_at}
use Rattle.machine.specs.Machine.Laws.{state_stays}
use Rattle.certify.specs.Recognition.Laws.{closure_first}
use Rattle.certify.specs.Marks.Laws.{marked_inside}
use Rattle.certify.specs.Folding.{From}
use Rattle.certify.specs.Sweep.{place_entry, AllKnown, Behind, Closed}
use Rattle.certify.proofs.Entries.{applied}
use Rattle.certify.proofs.Settling.{Settling}

module _ {M : Mealy} {xs given ms known : List ℕ} {apply changed : Bool} {entries : ℕ}
    (h : Settling M xs given ms known apply changed) (count : entries ≡ M.n * M.k)
    (full : AllKnown known entries) where
  -- the entry of every place is known
  place_known : (i : ℕ) → i < length xs → get_or known (place_entry M xs i) 0 ≡ 0 → ⊥
  place_known i l =
      let low = h.required.commands.low in
      full (place_entry M xs i)
      (omega (
        arith,
        count,
        digits_lt {q = state_at M xs i} {m = M.n} {r = get_or xs i 0} {c = M.k}
            (state_stays M h.required.proper xs low i) (low i l),
      ))

  -- from a place of the closure on, every place is in it
  closure_behind : (q d : ℕ) → q + d ≤ length xs → From M xs given q → From M xs given (q + d)
  closure_behind q zero l f = rw add-zero f
  closure_behind q (suc d) l f =
      let next : q + suc d ≡ q + d + 1 = omega arith in
      let inside : q + d < length xs = omega arith in
      rw next (applied h.required.commands (q + d) inside (closure_behind q d (omega arith) f)
      (h.knows _ (place_known (q + d) inside)))

  pub known_closed : {ms' : List ℕ} → Behind ms ms' → Closed M xs given ms' known
  known_closed {ms'} b = record {
    exact = record {
      long = b.long ∙ h.marking.long;
      bits = b.bits;
      sound = λ p e.
          let f = b.from p e in
          let inside : p ≤ length xs = omega (arith, marked_inside ms' p e, b.long, h.marking.long) in
          let at : f.0 + (p - f.0) ≡ p = omega (arith, f.1) in
          rw (← at) (closure_behind f.0 (p - f.0) (omega arith) (h.marking.sound f.0 f.2));
      complete = λ p l c.
          let f = closure_first c in
          b.behind p f.0 f.1 (omega (arith, h.marking.long)) (h.marking.above f.0 f.2);
    };
    knows = h.knows;
    all = λ i l x y. place_known i l;
  }
