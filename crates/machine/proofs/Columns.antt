-- The columns of a machine's table, as they are loaded.
-- Assumes nothing.
use Prim.Native.Nat.{ℕ, ◌+◌, ◌*◌, ◌≤◌, ◌<◌}
use mathlib.Core.Path.{◌≡◌, refl, sym, ap, ◌∙◌}
use mathlib.Core.List.{List}
use mathlib.Core.Logic.{inl, inr}
use native.Mathlib.Omega.{arith}
use lib.ListN.{length, get_or, take, length-take, get_or-eq_default}
use lib.Seq.{get_or-take}
use Rattle.facts.specs.Numbers.{less_or_not}
use Rattle.machine.specs.Limits.{most_entries, most_machine}
use Rattle.machine.specs.Machine.{tabled, machine_of}
use Rattle.machine.specs.Machine.Laws.{mealy_same}
use Rattle.sheet.specs.Format.{standard}

-- a column is that of the payload's bytes that the largest machine can have
module _ (p cells : List ℕ) (from : ℕ) (least : standard.table ≤ from) (most : from ≤ standard.table + 1)
    (long : length cells ≡ most_entries) (h : (e : ℕ) → e < most_entries → get_or cells e 0 ≡ get_or p (from + 2 * e) 0) where
  pub column_is : (e : ℕ) → get_or cells e 0 ≡ get_or (take (most_machine standard) p) (from + 2 * e) 0
  column_is e = elim (less_or_not e most_entries) [
    | inl l ↦ h e l ∙ sym (get_or-take (most_machine standard) p (from + 2 * e) 0 (omega arith))
    | inr l ↦ get_or-eq_default cells 0 (omega arith)
        ∙ sym (get_or-eq_default (take (most_machine standard) p) 0
        (omega (arith, length-take (most_machine standard) p)))
  ]

-- the machine that is loaded from a payload
module _ (p next answer : List ℕ) (n k : ℕ) (ne : n ≡ get_or p 0 0) (ke : k ≡ get_or p 1 0) (nl : length next ≡ most_entries)
    (al : length answer ≡ most_entries) (nc : (e : ℕ) → e < most_entries
    → get_or next e 0 ≡ get_or p (standard.table + 2 * e) 0)
    (ac : (e : ℕ) → e < most_entries → get_or answer e 0 ≡ get_or p (standard.table + 1 + 2 * e) 0) where
  kept : (i : ℕ) → i < most_machine standard → get_or p i 0 ≡ get_or (take (most_machine standard) p) i 0
  kept i l = sym (get_or-take (most_machine standard) p i 0 l)

  pub load_is : tabled n k 0 next answer ≡ machine_of standard (take (most_machine standard) p)
  unfolding tabled machine_of
  load_is =
      let q = take (most_machine standard) p in
      let kq : k ≡ get_or q 1 0 = ke ∙ kept 1 (omega arith) in
      mealy_same (tabled n k 0 next answer) (machine_of standard q) (ne ∙ kept 0 (omega arith)) kq refl
      (λ s c. column_is p next standard.table (omega arith) (omega arith) nl nc (s * k + c)
      ∙ ap (λ (x : ℕ). get_or q (standard.table + 2 * (s * x + c)) 0) kq)
      (λ s c. column_is p answer (standard.table + 1) (omega arith) (omega arith) al ac (s * k + c)
      ∙ ap (λ (x : ℕ). get_or q x 0) (omega arith) ∙ ap (λ (x : ℕ). get_or q (standard.table + 2 * (s * x + c) + 1) 0) kq)
