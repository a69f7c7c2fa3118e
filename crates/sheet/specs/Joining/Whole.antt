-- A sheet without causes 1 and 2 is the joining of what it holds.
use Rattle.std.specs.Prelude.{ℕ, ◌+◌, ◌^◌, ◌≤◌, ◌<◌, ◌≡◌, List, ◌∷◌, ◌++◌, length, take}
use Rattle.std.proofs.Math.Path.{refl}
use Rattle.std.proofs.Common.{append_assoc, arith, add-one, length-drop, take-append-drop, drop-cons, drop-drop}
use Rattle.std.proofs.Common.{length-take-le}
use Rattle.std.proofs.Math.ListN.{get_or, drop, drop_of_length-le}
use Rattle.facts.specs.Bytes.{Bytes, of_two_bytes, of_four_bytes}
use Rattle.sheet.specs.Check.{Clear}
use Rattle.sheet.specs.declared.record.Record.{Record}
use Rattle.sheet.specs.Check.Laws.{clear_refused}
use Rattle.sheet.specs.Format.{Format, header, record_at, end, role_of, rank, parse, parsed}
use Rattle.sheet.specs.Format.Laws.{end_after, clear_inside, clear_rank, parse_induction}
use Rattle.sheet.specs.Reader.{part_bytes}
use Rattle.sheet.specs.Writing.{header_of}
use Rattle.sheet.specs.Joining.{joined, placed, InOrder, held_by, contents}

-- what a sheet holds from an offset on, behind a record of rank last
record Holds (F : Format) (s : List ℕ) (at last : ℕ) (qs : List Record) : Type 0 where
  pub bytes : drop at s ≡ joined (held_by s qs)
  pub order : InOrder F last (held_by s qs)
  pub places : placed at (held_by s qs) ≡ qs

-- a record whose header stands in a sheet, each number in its bytes
record Headed (s : List ℕ) (r : Record) : Type 0 where
  pub header_is : drop r.start s ≡ header_of r.kind r.size ++ drop (r.start + header) s
  pub low : r.kind < 65536
  pub few : r.size < 2 ^ 32

-- each header of a sheet of bytes is such a one
module _ (s : List ℕ) (bytes : Bytes s) where
  next : (i j : ℕ) → i < length s → j ≡ i + 1 → drop i s ≡ get_or s i 0 ∷ drop j s
  next i j l e = rw (e, add-one) (drop-cons s i 0 l)

  headed : (at : ℕ) → at + header ≤ length s → Headed s (record_at s at)
  unfolding record_at header_of
  headed at l =
      let n = of_four_bytes (get_or s at 0) (get_or s (at + 1) 0) (get_or s (at + 2) 0) (get_or s (at + 3) 0) _ (bytes at)
      (bytes (at + 1)) (bytes (at + 2)) (bytes (at + 3)) refl in
      let k = of_two_bytes (get_or s (at + 4) 0) (get_or s (at + 5) 0) _ (bytes (at + 4)) (bytes (at + 5)) refl in
      let listed : drop at s
      ≡ get_or s at 0 ∷ get_or s (at + 1) 0 ∷ get_or s (at + 2) 0 ∷ get_or s (at + 3) 0 ∷ get_or s (at + 4) 0
      ∷ get_or s (at + 5) 0 ∷ drop (at + header) s =
      rw (
        next at (at + 1) (omega arith) (omega arith),
        next (at + 1) (at + 2) (omega arith) (omega arith),
        next (at + 2) (at + 3) (omega arith) (omega arith),
        next (at + 3) (at + 4) (omega arith) (omega arith),
        next (at + 4) (at + 5) (omega arith) (omega arith),
        next (at + 5) (at + 6) (omega arith) (omega arith),
      ) in
      record { header_is = rw (n.0, n.1, n.2, n.3, k.0, k.1) listed; low = k.2; few = n.4 }

-- a record, and what the sheet holds behind it
one_more : (F : Format) (s : List ℕ) (last : ℕ) (r : Record) (qs : List Record) → Headed s r → end r ≤ length s
    → last < rank (role_of F r.kind) → Holds F s (end r) (rank (role_of F r.kind)) qs
    → Holds F s r.start last (r ∷ qs)
unfolding joined part_bytes end
one_more F s last r qs head inside above h =
    let body = r.start + header in
    let long : length (take r.size (drop body s)) ≡ r.size =
    length-take-le r.size (drop body s) (omega (arith, length-drop body s)) in
    record {
      bytes = rw (long, append_assoc, ← h.bytes, ← drop-drop r.size body s, take-append-drop) head.header_is;
      order = (above, head.low, omega arith, h.order);
      places = rw (long, h.places);
    }

module _ (F : Format) (s : List ℕ) (bytes : Bytes s) where
  from : (at last : ℕ) → (parse F s at last).stop ≡ Clear → Holds F s at last (parse F s at last).records
  unfolding record_at joined
  from =
      parse_induction F s (λ at last w. w.stop ≡ Clear → Holds F s at last w.records)
      (λ at last l e. record { bytes = drop_of_length-le s l; order = tt; places = refl })
      (λ at last n p l c e. clear_refused e refl)
      (λ at last l c h e.
      let inside = clear_inside F s at last c in
      one_more F s last (record_at s at) _ (headed s bytes at (omega (arith, end_after s at))) inside
      (clear_rank F s at last c) (h e))

  module _ (stop : (parsed F s).stop ≡ Clear) where
    all : Holds F s 0 0 (parsed F s).records
    unfolding parsed
    all = from 0 0 stop

    -- the sheet is the joining of what it holds
    pub whole : s ≡ joined (contents F s)
    whole = all.bytes

    -- that is in the order of the format
    pub contents_in_order : InOrder F 0 (contents F s)
    contents_in_order = all.order

    -- and stands where the parsing found it
    pub contents_placed : placed 0 (contents F s) ≡ (parsed F s).records
    contents_placed = all.places
