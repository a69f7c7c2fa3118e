-- The loop that finds all transfers: cause 8, and the table of transfers.
-- Assumes nothing.
use Prim.Native.Nat.{ℕ, ◌+◌, ◌*◌, ◌≤◌, ◌<◌}
use mathlib.Core.Path.{◌≡◌, refl, sym, ap, ap₂, subst, ◌∙◌}
use mathlib.Core.Bool.{true}
use mathlib.Core.List.{List, []}
use mathlib.Core.Option
use mathlib.Core.Option.{Option, none, some}
use native.Mathlib.Omega.{arith}
use lib.ListN.{length, get_or}
use lib.Seq.{take-length}
use borrow.Author.Count.{below_more}
use Rattle.sheet.specs.Check.{first, Clear, Refused}
use Rattle.sheet.specs.Check.Laws.{absent, present, first_none, first_stops, first_goes_on, first_ends}
use Rattle.machine.specs.Machine.{Mealy, run, Proper}
use Rattle.build.specs.Transfer.{transfer}
use Rattle.build.specs.Transfer.Laws.{transfer_below}
use Rattle.build.specs.Sequence.{following, B}
use Rattle.build.specs.Building.{no_transfer, cause8}
use Rattle.build.specs.Building.Connection.{transfer_cause, cause8_is}
use Rattle.build.specs.Table.{row_size, table_size, row, Filled, Stored}

-- the transfers of the states before s are found and stored
pub record Connecting (M : Mealy) (w rows : List ℕ) (s : ℕ) : Type 0 where
  pub inside : s ≤ M.n
  pub clear : first s (transfer_cause M w) ≡ Clear
  pub filled : Filled M w s rows

pub connecting_start : (M : Mealy) (w rows : List ℕ) → length rows ≡ table_size → Connecting M w rows 0
connecting_start M w rows e = record {
  inside = omega arith;
  clear = first_none (transfer_cause M w);
  filled = record {
    long = e;
    short = λ s l. let z : ⊥ = omega arith in absurd z;
    stored = λ s l. let z : ⊥ = omega arith in absurd z;
  };
}

-- ---- one state: from and to as the program has them, and what its search answers
module _ (M : Mealy) (w : List ℕ) (s : ℕ) (from to : ℕ) {N : ℕ} (ne : N ≡ M.n) (fe : from ≡ run M s w)
    (te : to ≡ following N s) {o : Option (List ℕ)} (e : o ≡ transfer M from to) where
  transfer_of : o ≡ B M w s
  transfer_of = e ∙ ap₂ (transfer M) fe (te ∙ ap (λ (n : ℕ). following n s) ne)

  module _ {rows : List ℕ} (h : Connecting M w rows s) (l : s < M.n) where
    -- no transfer: the loop stops
    pub connecting_stops : o ≡ none → Refused 8 s ≡ cause8 M w
    connecting_stops z =
        let here : no_transfer (B M w s) ≡ true = ap no_transfer (sym transfer_of ∙ z) in
        first_stops (transfer_cause M w) l h.clear (sym (present 8 s here)) refl ∙ cause8_is M w

    module _ (proper : Proper M) {xs : List ℕ} (found : o ≡ some xs) where
      B_is : B M w s ≡ some xs
      B_is = sym transfer_of ∙ found

      pub size_low : length xs < row_size
      size_low =
          let low = transfer_below M (run M s w) (following M.n s) B_is in
          omega (arith, proper.few_states)

      filled_on : {after : List ℕ} → Stored rows after s (length xs) xs → Filled M w (s + 1) after
      filled_on {after} st = record {
        long = st.long;
        short =
            below_more (λ i. get_or after (i * row_size) 0 < row_size) s
            (λ i q. rw (st.sizes i q) (h.filled.short i q)) (rw st.sized size_low);
        stored =
            below_more (λ i. Option.get_or (B M w i) [] ≡ row after i) s
            (λ i q. h.filled.stored i q ∙ sym (st.rows i q (h.filled.short i q)))
            (rw (B_is, st.stored, take-length));
      }

      pub connecting_on : {after : List ℕ} → Stored rows after s (length xs) xs → Connecting M w after (s + 1)
      connecting_on st = record {
        inside = omega arith;
        clear = first_goes_on (transfer_cause M w) s h.clear refl (absent 8 s (ap no_transfer B_is));
        filled = filled_on st;
      }

-- ---- the end
module _ (M : Mealy) (w rows : List ℕ) {s : ℕ} (h : Connecting M w rows s) where
  pub connecting_clear : M.n ≤ s → Clear ≡ cause8 M w
  connecting_clear l = first_ends (transfer_cause M w) h.inside l h.clear ∙ cause8_is M w

  pub connecting_filled : M.n ≤ s → Filled M w M.n rows
  connecting_filled l = subst (λ (x : ℕ). Filled M w x rows) (omega (arith, h.inside)) h.filled
