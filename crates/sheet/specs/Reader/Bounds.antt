-- The places of causes 1 and 2 lie inside the longest sheet, and so do the offsets in the payloads of a sheet that has
-- neither. Reading a sheet of bytes gives bytes.
use Rattle.std.specs.Prelude.{is_none}
use Rattle.std.specs.Prelude.{ℕ, ◌≤◌, ◌<◌, ◌≡◌, refl, List, [], ◌∷◌, map, length}
use Rattle.std.proofs.Common.{sym, ap, length-take, ltb-false}
use native.Mathlib.Omega.{arith}
use Rattle.facts.specs.Bytes.{Bytes, bytes_part}
use Rattle.sheet.specs.Check.{first_cause, Clear}
use Rattle.std.specs.Prelude.{Option, Some, None}
use Rattle.sheet.specs.declared.record.Record.{Record}
use Rattle.sheet.specs.Check.Laws.{clear_absent}
use Rattle.sheet.specs.Check.Bounds.{WhereRefused, place_clear, place_of, place_cause, place_else, place_cons}
use Rattle.sheet.specs.Check.Bounds.{place_map}
use Rattle.sheet.specs.Format.{Format, standard, longest, record_at, offset, cause1, cause2, cause_of, cause_at}
use Rattle.sheet.specs.Format.{Parsed, parsed, find}
use Rattle.sheet.specs.Format.Laws.{start_at, end_size, parsed_is, parse_induction}
use Rattle.sheet.specs.Reader.{too_long, missing, sheet_causes, refusal_of, record_or, record_of}
use Rattle.sheet.specs.Reader.{found_in, payload_part, within, part, part_bytes, content}
use Rattle.sheet.specs.Reader.Laws.{within_inside, found_within, record_inside, sheet_short}

-- ---- causes 1 and 2
-- a refusal that the capture rig's number can hold: its number is below the results' classes, which begin with 100, and
-- its place is at most the longest sheet's length
pub record Small (n p : ℕ) : Type 0 where
  pub number : n < 100
  pub place : p ≤ longest

module _ (s : List ℕ) (short : length s ≤ longest) where
  at_small : (at last : ℕ) → at < length s → WhereRefused Small (cause_at standard s at last)
  unfolding cause_of cause1 cause2
  at_small at last l =
      let r = record_at s at in
      let start = start_at s at in
      place_else Small (cause1 (length s) r) (cause2 standard r last)
      (place_cause Small 1 r.start _ (λ t. record { number = omega arith; place = omega arith }))
      (λ q. place_cause Small 2 r.start _ (λ t. record { number = omega arith; place = omega arith }))

  stop_small : WhereRefused Small (parsed standard s).stop
  stop_small =
      place_of Small (ap (λ (w : Parsed). w.stop) (parsed_is standard s))
      (parse_induction standard s (λ at last w. WhereRefused Small w.stop)
      (λ at last l. place_clear Small)
      (λ at last n p l e. place_of Small (sym e) (at_small at last l))
      (λ at last l e h. h)
      0 0)

-- the place is the limit, a record's start, or the sheet's length
pub sheet_small : (roles : List (List ℕ)) (s : List ℕ) → WhereRefused Small (first_cause (sheet_causes standard roles s))
unfolding sheet_causes
sheet_small roles s =
    place_cons Small (too_long standard s) ((parsed standard s).stop ∷ map (missing standard s) roles)
    (place_cause Small 1 longest _ (λ t. record { number = omega arith; place = omega arith }))
    (λ q.
    let l : length s ≤ longest = ltb-false _ _ (clear_absent 1 longest _ q) in
    place_cons Small (parsed standard s).stop (map (missing standard s) roles) (stop_small s l)
    (λ r. place_map Small (missing standard s) roles
    (λ ks. place_cause Small 2 (length s) (is_none (find ks (parsed standard s).records))
    (λ t. record { number = omega arith; place = l }))))

-- what reading gives is no longer
pub read_short : (ks s : List ℕ) → refusal_of standard ks s ≡ Clear → length (content standard ks s) ≤ longest
unfolding refusal_of
read_short ks s e = omega (arith, record_inside standard ks s, sheet_short standard (ks ∷ []) s e)

-- ---- offsets in what reading gives
offset_of : (s : List ℕ) (f : Option Record) → within s f ≡ f → (i : ℕ) → i < length (part_bytes (payload_part f) s)
    → offset (record_or f).start i < length s
unfolding part_bytes
offset_of s (Some r) h i l = let k = simp length-take at l in omega (arith, end_size r, within_inside s r h)
offset_of s None h i l = let z : ⊥ = omega arith in absurd z

-- they lie inside the sheet
pub offset_inside : (F : Format) (ks s : List ℕ) (i : ℕ) → i < length (content F ks s)
    → offset (record_of F ks s).start i < length s
unfolding record_of content part
offset_inside F ks s i l =
    offset_of s (found_in F ks s) (found_within F ks s (found_in F ks s) refl) i l

-- ---- bytes
pub content_bytes : (F : Format) (ks s : List ℕ) → Bytes s → Bytes (content F ks s)
unfolding content part_bytes
content_bytes F ks s h = bytes_part (part F ks s).from (part F ks s).size s h
