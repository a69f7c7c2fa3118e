-- The laws of putting bytes into a buffer, where all of them fit and where they do not, and one part after the other;
-- and of a record's header: it reads back.
use Rattle.std.specs.Prelude.{ℕ, ◌+◌, ◌%◌, ◌^◌, ◌≤◌, ◌<◌, ◌≡◌, refl, List, [], ◌++◌, drop}
use Rattle.std.proofs.Common.{sym, ap₂, subst, ◌∙◌, inl, inr, arith, add-zero, zero-add, le-leb, length-append}
use Rattle.std.proofs.Common.{get_or-append-add}
use Rattle.std.proofs.Math.Path.{ap}
use Rattle.std.proofs.lemmas.Bool.{lt-leb}
use Rattle.std.proofs.Math.ListN.{length, get_or, get_or-append}
use Rattle.std.proofs.Math.Seq.{paste, paste-zero, take-length}
use Rattle.std.proofs.lemmas.List.Edits.{length-paste}
use Rattle.facts.specs.Bytes.{two_bytes, four_bytes}
use Rattle.facts.specs.Numbers.{less_or_not}
use Rattle.facts.specs.Pasting.{paste_both}
use Rattle.sheet.specs.Format.{header, record_at}
use Rattle.sheet.specs.Writing.{header_of, record_bytes, most_payload, record_put, put_at, put_end, Puts, written}

-- ---- putting
module _ (before : List ℕ) (at : ℕ) (xs : List ℕ) where
  pub put_fits : at + length xs ≤ length before → put_at before at xs ≡ paste before at xs (length xs)
  unfolding put_at
  put_fits l = rw (le-leb (at + length xs) (length before) l)

  pub end_fits : at + length xs ≤ length before → put_end before at xs ≡ at + length xs
  unfolding put_end
  end_fits l = rw (le-leb (at + length xs) (length before) l)

  pub put_not : length before < at + length xs → put_at before at xs ≡ before
  unfolding put_at
  put_not l = rw (lt-leb (at + length xs) (length before) l)

  pub end_not : length before < at + length xs → put_end before at xs ≡ at
  unfolding put_end
  end_not l = rw (lt-leb (at + length xs) (length before) l)

  -- what `put` does where they fit
  pub put_puts : at + length xs ≤ length before → {after : List ℕ} {end : ℕ} → after ≡ put_at before at xs
      → end ≡ put_end before at xs → Puts before at xs after end
  put_puts l e f = record { ends = f ∙ end_fits l; inside = omega (arith, f, end_fits l); written = e ∙ put_fits l }

-- and the other direction: bytes that were put where all of them fit are there as `put` would put them
pub puts_put : {before after : List ℕ} {at end : ℕ} (xs : List ℕ) → Puts before at xs after end
    → (after ≡ put_at before at xs) × (end ≡ put_end before at xs)
puts_put {before} {after} {at} xs h =
    let l : at + length xs ≤ length before = omega (arith, h.ends, h.inside) in
    (h.written ∙ sym (put_fits before at xs l), h.ends ∙ sym (end_fits before at xs l))

-- ---- parts, one after the other
pub puts_none : (before : List ℕ) (at : ℕ) → at ≤ length before → Puts before at [] before at
puts_none before at l = record { ends = omega arith; inside = l; written = paste-zero before at [] }

pub puts_long : {before : List ℕ} {at : ℕ} (xs : List ℕ) {after : List ℕ} {end : ℕ} → Puts before at xs after end
    → length after ≡ length before
puts_long {before} {at} xs h =
    ap length h.written ∙ length-paste before at xs (length xs) (omega (arith, h.ends, h.inside)) (omega arith)

-- the same bytes
pub puts_same : {before after xs ys : List ℕ} {at end : ℕ} → xs ≡ ys → Puts before at xs after end
    → Puts before at ys after end
puts_same {before} {after} {xs} {ys} {at} {end} e h = subst (λ (l : List ℕ). Puts before at l after end) e h

-- two parts
pub puts_append : {before middle after : List ℕ} {at e f : ℕ} (xs ys : List ℕ) → Puts before at xs middle e
    → Puts middle e ys after f → Puts before at (xs ++ ys) after f
puts_append {before} {middle} {after} {at} {e} {f} xs ys a b = record {
  ends = omega (arith, a.ends, b.ends, length-append xs ys);
  inside = omega (arith, b.inside, puts_long xs a);
  written =
      b.written
      ∙ ap₂ (λ (d : List ℕ) (n : ℕ). paste d n ys (length ys)) a.written a.ends
      ∙ paste_both before at xs ys (omega (arith, a.ends, a.inside));
}

-- at the start
pub paste_start : (xs before : List ℕ) → paste before 0 xs (length xs) ≡ written xs before
paste_start xs before = ap₂ ◌++◌ (take-length xs) (ap (λ (n : ℕ). drop n before) (zero-add (length xs)))

pub puts_written : {before after : List ℕ} {end : ℕ} (xs : List ℕ) → Puts before 0 xs after end
    → after ≡ written xs before
puts_written {before} xs h = h.written ∙ paste_start xs before

-- nothing
pub put_nothing : (before : List ℕ) (at : ℕ) → (before ≡ put_at before at []) × (at ≡ put_end before at [])
put_nothing before at = elim (less_or_not (length before) (at + 0)) [
  | inl l ↦ (sym (put_not before at [] l), sym (end_not before at [] l))
  | inr l ↦ puts_put [] (puts_none before at (omega arith))
]

-- ---- a record that is put: one that its header can hold, and any other
pub record_held : (kind : ℕ) (payload : List ℕ) → length payload ≤ most_payload
    → record_put kind payload ≡ record_bytes kind payload
unfolding record_put
record_held kind payload l = rw (le-leb (length payload) most_payload l)

pub record_not_held : (kind : ℕ) (payload : List ℕ) → most_payload < length payload → record_put kind payload ≡ []
unfolding record_put
record_not_held kind payload l = rw (lt-leb (length payload) most_payload l)

-- ---- the header
pub header_size : (kind size : ℕ) → length (header_of kind size) ≡ header
unfolding header_of
header_size kind size = refl

pub record_size : (kind : ℕ) (payload : List ℕ) → length (record_bytes kind payload) ≡ header + length payload
record_size kind payload =
    length-append (header_of kind (length payload)) payload
    ∙ ap (λ (n : ℕ). n + length payload) (header_size kind (length payload))

-- a record that fits, and whose length its header can hold, is put whole
pub record_puts : (before : List ℕ) (at kind : ℕ) (payload : List ℕ) → length payload ≤ most_payload
    → at + header + length payload ≤ length before → {after : List ℕ} {end : ℕ}
    → (after ≡ put_at before at (record_put kind payload)) × (end ≡ put_end before at (record_put kind payload))
    → Puts before at (record_bytes kind payload) after end
record_puts before at kind payload held fits h =
    let same = record_held kind payload held in
    put_puts before at (record_bytes kind payload) (omega (arith, record_size kind payload))
    (h.0 ∙ ap (put_at before at) same) (h.1 ∙ ap (put_end before at) same)

-- behind any bytes, and with any bytes behind it
module _ (p xs : List ℕ) (kind size : ℕ) where
  header_byte : (i : ℕ) → i < header
      → get_or ((p ++ header_of kind size) ++ xs) (length p + i) 0 ≡ get_or (header_of kind size) i 0
  header_byte i l =
      get_or-append (p ++ header_of kind size) xs 0 (length p + i)
      (omega (arith, length-append p (header_of kind size), header_size kind size))
      ∙ get_or-append-add p (header_of kind size) i 0

  pub header_reads : kind < 65536 → size < 2 ^ 32
      → record_at ((p ++ header_of kind size) ++ xs) (length p) ≡ record { start = length p; size = size; kind = kind }
  unfolding record_at header_of
  header_reads kl sl =
      let s = (p ++ header_of kind size) ++ xs in
      let zeroth : get_or s (length p) 0 ≡ size % 256 =
      ap (λ (n : ℕ). get_or s n 0) (sym (add-zero (length p))) ∙ header_byte 0 (omega arith) in
      rw (
        zeroth,
        header_byte 1 (omega arith),
        header_byte 2 (omega arith),
        header_byte 3 (omega arith),
        header_byte 4 (omega arith),
        header_byte 5 (omega arith),
      )
      (ap₂ (λ (n k : ℕ). record { start = length p; size = n; kind = k }) (four_bytes size sl) (two_bytes kind kl))
