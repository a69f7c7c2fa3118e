-- The marks during a sweep: between the given ones and their closure, and what marking one more place keeps.
-- Assumes nothing.
use Prim.Native.Nat.{ℕ, ◌≤◌, ◌<◌}
use mathlib.Core.Path.{◌≡◌, refl, ◌∙◌}
use mathlib.Core.List.{List}
use mathlib.Core.Logic.{inl, inr}
use native.Mathlib.Omega.{arith}
use native.Mathlib.Nat.{eq-or-lt_of_le}
use lib.ListN.{length, get_or, set, length-set}
use Rattle.facts.specs.Numbers.{bit_one, bit_zero}
use Rattle.facts.specs.Lists.{set_cell}
use Rattle.machine.specs.Machine.{Mealy}
use Rattle.certify.specs.Marks.{Bits}
use Rattle.certify.specs.Folding.{From, Marking, Paired}
use Rattle.certify.proofs.Paired.{paired_sym, paired_carries}

-- a cell of 0 was 0 before, where those of 1 stay
pub was_zero : (before after : List ℕ) → Bits before → ((p : ℕ) → get_or before p 0 ≡ 1 → get_or after p 0 ≡ 1)
    → (p : ℕ) → get_or after p 0 ≡ 0 → get_or before p 0 ≡ 0
was_zero before after bits keeps p z = bit_zero (bits p) (λ e. omega (arith, keeps p e))

module _ {M : Mealy} {xs given ms : List ℕ} where
  -- one more mark, in the closure
  pub marking_more : {p : ℕ} → p ≤ length xs → From M xs given p → Marking M xs given ms
      → Marking M xs given (set ms p 1)
  marking_more {p} pl fp h =
      let inside : p < length ms = omega (arith, h.long) in
      record {
        long = length-set ms p 1 ∙ h.long;
        bits = set_cell (λ q x. x ≤ 1) ms p 1 inside (λ q o. h.bits q) (omega arith);
        above = set_cell (λ q x. get_or given q 0 ≡ 1 → x ≡ 1) ms p 1 inside (λ q o. h.above q) (λ e. refl);
        sound = set_cell (λ q x. x ≡ 1 → From M xs given q) ms p 1 inside (λ q o. h.sound q) (λ e. fp);
      }

  -- of two paired places whose marks differ one is marked, so both are in the closure
  pub both_in : {a b : ℕ} → Marking M xs given ms → Paired M xs given a b → (get_or ms a 0 ≡ get_or ms b 0 → ⊥)
      → (From M xs given a) × (From M xs given b)
  both_in {a} {b} h pair n = elim (eq-or-lt_of_le (h.bits a)) [
    | inl e ↦ (let f = h.sound a e in (f, paired_carries pair f))
    | inr l ↦ (let f = h.sound b (bit_one (h.bits b) (λ z. n (omega arith))) in
        (paired_carries (paired_sym pair) f, f))
  ]
