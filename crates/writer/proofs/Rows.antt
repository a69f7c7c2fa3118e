-- The sheet of the wanted parts, put record by record, and its length as the code sums it. Assumes nothing.
use Prim.Native.Nat.{ℕ, ◌+◌, ◌≤◌}
use mathlib.Core.Path.{◌≡◌, sym, ap, ◌∙◌}
use mathlib.Core.List.{List, [], ◌∷◌}
use native.Mathlib.Omega.{arith}
use lib.ListN.{length}
use Rattle.sheet.specs.Format.{longest}
use Rattle.sheet.specs.Writing.{record_put, put_at, put_end, Puts}
use Rattle.sheet.specs.Writing.Laws.{puts_none, puts_long, puts_same, record_puts}
use Rattle.sheet.specs.Joining.{bytes_of, joined}
use Rattle.sheet.specs.Joining.Laws.{joined_none, joined_long, puts_more, record_ends}
use Rattle.writer.specs.declared.wanted.Wanted.{Wanted}
use Rattle.writer.specs.declared.wanted.Wanted.TheVariants.{Word, Sequence, Answers}
use Rattle.writer.specs.Parts.{Parts, records_of, sheet_of, sequence_start}
use Rattle.writer.specs.Parts.Laws.{end_of, sheet_long}

-- ---- the length
pub two_inside : (v : Wanted) (p : Parts) → sequence_start p ≤ length (sheet_of v p)
two_inside Word p = omega (arith, sheet_long Word p)
two_inside Sequence p = omega (arith, sheet_long Sequence p)
two_inside Answers p = omega (arith, sheet_long Answers p)

pub wanted_long : (p : Parts) {v w : Wanted} → v ≡ w → length (sheet_of v p) ≡ end_of w p
wanted_long p {v} {w} e = ap (λ (x : Wanted). length (sheet_of x p)) e ∙ sheet_long w p

-- ---- records that the code puts one behind the other
pub data Row : List ℕ → ℕ → List (ℕ × List ℕ) → List ℕ → ℕ → Type 0 where
  done : {d : List ℕ} {at : ℕ} → Row d at [] d at
  more : {d middle after : List ℕ} {at e end : ℕ} {r : ℕ × List ℕ} {rs : List (ℕ × List ℕ)}
      → (middle ≡ put_at d at (record_put r.0 r.1)) × (e ≡ put_end d at (record_put r.0 r.1))
      → Row middle e rs after end → Row d at (r ∷ rs) after end

row_puts : {d after : List ℕ} {at end : ℕ} (rs : List (ℕ × List ℕ)) → length (joined rs) ≤ longest
    → at + length (joined rs) ≤ length d → Row d at rs after end → Puts d at (joined rs) after end
row_puts {d} {after} {at} [] few l done = puts_same (sym joined_none) (puts_none d at (omega arith))
row_puts {d} {after} {at} (r ∷ rs) few l (more {middle = m} {e = e} h t) =
    let long = joined_long r rs in
    let one = record_puts d at r.0 r.1 (omega arith) (omega arith) h in
    let fits : e + length (joined rs) ≤ length m = omega (arith, record_ends r one, puts_long (bytes_of r) one) in
    puts_more r rs one (row_puts rs (omega arith) fits t)

-- all of them are the sheet
pub puts_sheet : (p : Parts) {v w : Wanted} → v ≡ w → {d after : List ℕ} {end : ℕ}
    → (length (sheet_of v p) ≤ longest) × (length (sheet_of v p) ≤ length d) → Row d 0 (records_of w p) after end
    → Puts d 0 (sheet_of v p) after end
unfolding sheet_of
puts_sheet p {v} {w} e {d} {after} {end} l h =
    let same : joined (records_of w p) ≡ joined (records_of v p) = ap (λ (x : Wanted). joined (records_of x p)) (sym e) in
    let long = ap length same in
    puts_same same (row_puts (records_of w p) (omega (arith, l.0)) (omega (arith, l.1)) h)
