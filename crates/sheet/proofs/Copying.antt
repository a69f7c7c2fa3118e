-- A record put as its header and its payload. Assumes nothing.
use Prim.Native.Nat.{ℕ, ◌+◌, ◌≤◌, ◌<◌}
use mathlib.Core.Path.{◌≡◌, sym, ap, ◌∙◌}
use mathlib.Core.Logic.{inl, inr}
use mathlib.Core.List.{List, ◌++◌}
use native.Mathlib.Omega.{arith}
use lib.ListN.{length, length-append}
use Rattle.facts.specs.Numbers.{less_or_not}
use Rattle.sheet.specs.Writing.{header_of, record_bytes, most_payload, record_put, put_at, put_end}
use Rattle.sheet.specs.Writing.Laws.{put_not, end_not, put_puts, puts_put, puts_long, puts_same, puts_append}
use Rattle.sheet.specs.Writing.Laws.{put_nothing, record_held, record_not_held}

-- ---- a header and then the payload, where both fit and the header can hold the length; else nothing
module _ (before : List ℕ) (at kind : ℕ) (payload : List ℕ) where
  pub record_put_lem : length payload ≤ most_payload → at + length (record_bytes kind payload) ≤ length before
      → {middle after h : List ℕ} {next end : ℕ} → h ≡ header_of kind (length payload)
      → (middle ≡ put_at before at h) × (next ≡ put_end before at h)
      → (after ≡ put_at middle next payload) × (end ≡ put_end middle next payload)
      → (after ≡ put_at before at (record_put kind payload)) × (end ≡ put_end before at (record_put kind payload))
  record_put_lem held l {middle} {after} {h} {next} {end} e first second =
      let long = length-append h payload in
      let same : h ++ payload ≡ record_bytes kind payload = ap (λ (x : List ℕ). x ++ payload) e in
      let one = put_puts before at h (omega (arith, ap length same)) first.0 first.1 in
      let fits : next + length payload ≤ length middle = omega (arith, one.ends, puts_long h one, ap length same) in
      let two = put_puts middle next payload fits second.0 second.1 in
      puts_put (record_put kind payload)
      (puts_same (same ∙ sym (record_held kind payload held)) (puts_append h payload one two))

  pub record_not_put : (length payload ≤ most_payload → length before < at + length (record_bytes kind payload))
      → (before ≡ put_at before at (record_put kind payload)) × (at ≡ put_end before at (record_put kind payload))
  record_not_put over = elim (less_or_not most_payload (length payload)) [
    | inl l ↦ rw (record_not_held kind payload l) (put_nothing before at)
    | inr l ↦ rw (record_held kind payload l) (
      sym (put_not before at (record_bytes kind payload) (over l)),
      sym (end_not before at (record_bytes kind payload) (over l)),
    )
  ]
