-- How joined records are read: they parse as they were placed, and reading a role gives the payload of its record.
use Rattle.std.specs.Prelude.{is_none}
use Rattle.std.specs.Prelude.{ℕ, ◌+◌, ◌^◌, ◌≤◌, ◌<◌, ◌≡◌, true, not, take, drop}
use Rattle.std.proofs.Math.Path.{refl, sym, ap}
use Rattle.std.proofs.Common.{subst, ap₂, ◌∙◌, inl, inr, arith, le-ltb, eqb-true, take_at, drop_at}
use mathlib.Core.List.{List, [], ◌∷◌, ◌++◌, map, append_assoc, append-nil, Memᴰ}
use Rattle.std.proofs.Math.ListN.{length, length-append}
use Rattle.facts.specs.Tests.{true_or_false, both_true}
use Rattle.facts.specs.Lists.{among, among_one}
use Rattle.sheet.specs.Check.{refusal◌with◌if◌, first_cause, Clear}
use Rattle.std.specs.Prelude.{Option}
use Rattle.sheet.specs.declared.record.Record.{Record}
use Rattle.sheet.specs.declared.reader.Part.{Part}
use Rattle.sheet.specs.Check.Laws.{absent, else_clear, cause_none, cause_cons, cause_one}
use Rattle.sheet.specs.Format.{Format, standard, header, record_at, end, role_of, rank, Parsed, ◌before◌, parse}
use Rattle.sheet.specs.Format.{parsed, of_kind, ◌or◌, find}
use Rattle.sheet.specs.Format.Laws.{parse_end, parse_as, parsed_is}
use Rattle.sheet.specs.Reader.{too_long, missing, sheet_causes, refusal_of, found_in, record_or}
use Rattle.sheet.specs.Reader.{record_of}
use Rattle.sheet.specs.Reader.{payload_part, part, part_bytes, content, Reads}
use Rattle.sheet.specs.Reader.Laws.{found_clear, needed_clear, clear_reads}
use Rattle.sheet.specs.Writing.{header_of, Puts}
use Rattle.sheet.specs.Writing.Laws.{header_size, record_size, header_reads, puts_same, puts_append}
use Rattle.sheet.specs.Joining.{bytes_of, joined, placed, InOrder, payload_of, has, has_all, record_in, roles_of}
use Rattle.sheet.specs.Joining.{Successive, fresh, held_by, contents}

-- ---- the bytes
-- no records have no bytes
pub joined_none : joined [] ≡ []
unfolding joined
joined_none = refl

-- one alone has its own
pub joined_one : (r : ℕ × List ℕ) → joined (r ∷ []) ≡ bytes_of r
unfolding joined
joined_one r = append-nil (bytes_of r)

-- each record has its header and its payload
pub joined_long : (r : ℕ × List ℕ) (rs : List (ℕ × List ℕ))
    → length (joined (r ∷ rs)) ≡ header + length r.1 + length (joined rs)
unfolding joined
joined_long r rs = omega (arith, length-append (bytes_of r) (joined rs), record_size r.0 r.1)

-- more records come behind
pub joined_append : (rs qs : List (ℕ × List ℕ)) → joined (rs ++ qs) ≡ joined rs ++ joined qs
unfolding joined
joined_append [] qs = refl
joined_append (r ∷ rs) qs = rw (joined_append rs qs, append_assoc (bytes_of r) (joined rs) (joined qs))

-- ---- records put into a buffer, one behind the other; and where one ends
pub puts_more : {d middle after : List ℕ} {at e f : ℕ} (r : ℕ × List ℕ) (rs : List (ℕ × List ℕ))
    → Puts d at (bytes_of r) middle e → Puts middle e (joined rs) after f → Puts d at (joined (r ∷ rs)) after f
unfolding joined
puts_more r rs h k = puts_append (bytes_of r) (joined rs) h k

pub puts_last : {d after : List ℕ} {at e : ℕ} (r : ℕ × List ℕ) → Puts d at (bytes_of r) after e
    → Puts d at (joined (r ∷ [])) after e
puts_last r h = puts_same (sym (joined_one r)) h

pub record_ends : (r : ℕ × List ℕ) {d after : List ℕ} {at e : ℕ} → Puts d at (bytes_of r) after e
    → e ≡ at + header + length r.1
record_ends r h = omega (arith, h.ends, record_size r.0 r.1)

-- ---- one record, the bytes before it and those after it
module _ (pre : List ℕ) (r : ℕ × List ℕ) (more : List ℕ) (at : ℕ) (e : length pre ≡ at) where
  opened : pre ++ (bytes_of r ++ more) ≡ (pre ++ header_of r.0 (length r.1)) ++ (r.1 ++ more)
  opened = simp append_assoc

  behind : length (pre ++ bytes_of r) ≡ at + header + length r.1
  behind = omega (arith, length-append pre (bytes_of r), record_size r.0 r.1)

  payload_there : take (length r.1) (drop (at + header) (pre ++ (bytes_of r ++ more))) ≡ r.1
  payload_there =
      let n = length r.1 in
      let h = header_of r.0 n in
      let l : length (pre ++ h) ≡ at + header = omega (arith, length-append pre h, header_size r.0 n) in
      rw (opened, drop_at (pre ++ h) (r.1 ++ more) (at + header) l, take_at r.1 more n refl)

  record_there : r.0 < 65536 → length r.1 < 2 ^ 32
      → record_at (pre ++ (bytes_of r ++ more)) at ≡ record { start = at; size = length r.1; kind = r.0 }
  record_there kl sl = rw (opened, ← e) (header_reads pre (r.1 ++ more) r.0 (length r.1) kl sl)

-- ---- looking for a kind among placed records
-- none is found where none of the records is of the kinds
pub missing_placed : (ks : List ℕ) (rs : List (ℕ × List ℕ)) (at : ℕ)
    → is_none (find ks (placed at rs)) ≡ not (has ks rs)
unfolding find of_kind ◌or◌
missing_placed ks [] at = refl
missing_placed ks (r ∷ rs) at = elim (true_or_false (among r.0 ks)) [
  | inl e ↦ rw e
  | inr e ↦ rw e (missing_placed ks rs (at + header + length r.1))
]

-- the payload of one that is found is that of the first record of the kinds
payload_placed : (ks : List ℕ) (rs : List (ℕ × List ℕ)) (pre : List ℕ) (at : ℕ) → length pre ≡ at
    → part_bytes (payload_part (find ks (placed at rs))) (pre ++ joined rs) ≡ payload_of ks rs
unfolding part_bytes joined find of_kind ◌or◌
payload_placed ks [] pre at e = refl
payload_placed ks (r ∷ rs) pre at e = elim (true_or_false (among r.0 ks)) [
  | inl q ↦ rw q (payload_there pre r (joined rs) at e)
  | inr q ↦ rw (q, ← append_assoc pre (bytes_of r) (joined rs))
      (payload_placed ks rs (pre ++ bytes_of r) (at + header + length r.1) (behind pre r (joined rs) at e))
]

-- the kinds and payloads of placed records are those that were placed
held_placed : (rs : List (ℕ × List ℕ)) (pre : List ℕ) (at : ℕ) → length pre ≡ at
    → held_by (pre ++ joined rs) (placed at rs) ≡ rs
unfolding part_bytes joined
held_placed [] pre at e = refl
held_placed (r ∷ rs) pre at e =
    ap₂ ◌∷◌ (ap (λ (p : List ℕ). (r.0, p)) (payload_there pre r (joined rs) at e))
    (subst (λ (s : List ℕ). held_by s (placed (at + header + length r.1) rs) ≡ rs)
    (append_assoc pre (bytes_of r) (joined rs))
    (held_placed rs (pre ++ bytes_of r) (at + header + length r.1) (behind pre r (joined rs) at e)))

module _ (F : Format) where
  -- ---- the parsing, behind any bytes
  parse_joined : (rs : List (ℕ × List ℕ)) (pre : List ℕ) (at last : ℕ) → length pre ≡ at → InOrder F last rs
      → parse F (pre ++ joined rs) at last ≡ record { records = placed at rs; stop = Clear }
  unfolding joined end
  parse_joined [] pre at last e h = parse_end F (pre ++ []) at last (omega (arith, length-append pre []))
  parse_joined (r ∷ rs) pre at last e h =
      let s = pre ++ (bytes_of r ++ joined rs) in
      let same : (pre ++ bytes_of r) ++ joined rs ≡ s = append_assoc pre (bytes_of r) (joined rs) in
      let next : length (pre ++ bytes_of r) ≡ at + header + length r.1 = behind pre r (joined rs) at e in
      let long : length (pre ++ bytes_of r) + length (joined rs) ≡ length s =
      sym (length-append (pre ++ bytes_of r) (joined rs)) ∙ ap length same in
      parse_as F s at last (record_there pre r (joined rs) at e h.1 h.2) (omega arith) h.0
      ∙ ap (λ (w : Parsed). record { start = at; size = length r.1; kind = r.0 } before w)
      (rw (← same) (parse_joined rs (pre ++ bytes_of r) _ (rank (role_of F r.0)) next h.3))

  module _ (rs : List (ℕ × List ℕ)) (order : InOrder F 0 rs) where
    -- joined records parse as they were placed, and nothing stops the parsing
    pub parsed_joined : parsed F (joined rs) ≡ record { records = placed 0 rs; stop = Clear }
    parsed_joined = parsed_is F (joined rs) ∙ parse_joined rs [] 0 0 refl order

    -- so they are what the sheet holds
    pub contents_joined : contents F (joined rs) ≡ rs
    contents_joined = ap (λ (w : Parsed). held_by (joined rs) w.records) parsed_joined ∙ held_placed rs [] 0 refl

    find_joined : (ks : List ℕ) → find ks (parsed F (joined rs)).records ≡ find ks (placed 0 rs)
    find_joined ks = ap (λ (w : Parsed). find ks w.records) parsed_joined

    module _ (short : length (joined rs) ≤ F.longest) where
      fits : too_long F (joined rs) ≡ Clear
      fits = absent 1 F.longest (le-ltb F.longest (length (joined rs)) short)

      -- nothing but a missing record is refused, so what reading finds of a role is the placed record
      pub found_joined : (ks : List ℕ) → found_in F ks (joined rs) ≡ find ks (placed 0 rs)
      found_joined ks =
          found_clear F ks (joined rs) (rw (fits, ap (λ (w : Parsed). w.stop) parsed_joined) (else_clear Clear))
          ∙ find_joined ks

      pub record_joined : (ks : List ℕ) → record_of F ks (joined rs) ≡ record_or (find ks (placed 0 rs))
      unfolding record_of
      record_joined ks = ap record_or (found_joined ks)

      -- the causes are those of the roles that have no record
      causes_are : (roles : List (List ℕ))
          → first_cause (sheet_causes F roles (joined rs)) ≡ first_cause (map (missing F (joined rs)) roles)
      unfolding sheet_causes
      causes_are roles =
          let stop = ap (λ (w : Parsed). w.stop) parsed_joined in
          rw (cause_cons, fits, else_clear, cause_cons, stop, else_clear)

      -- reading refuses nothing but a missing record
      pub refusal_joined : (ks : List ℕ)
          → refusal_of F ks (joined rs) ≡ (refusal 2 with length (joined rs) if is_none (find ks (placed 0 rs)))
      unfolding refusal_of
      refusal_joined ks =
          causes_are (ks ∷ [])
          ∙ cause_one (missing F (joined rs) ks)
          ∙ ap (λ (f : Option Record). refusal 2 with length (joined rs) if is_none f) (find_joined ks)

      -- what is read of a role is the payload of the placed record
      pub part_joined : (ks : List ℕ) → part F ks (joined rs) ≡ payload_part (find ks (placed 0 rs))
      unfolding part
      part_joined ks = ap payload_part (found_joined ks)

      -- that is, its bytes
      pub content_joined : (ks : List ℕ) → content F ks (joined rs) ≡ payload_of ks rs
      unfolding content
      content_joined ks =
          ap (λ (p : Part). part_bytes p (joined rs)) (part_joined ks) ∙ payload_placed ks rs [] 0 refl

      -- where every role has a record, there is none of causes 1 and 2
      pub causes_joined : (roles : List (List ℕ)) → has_all roles rs ≡ true
          → first_cause (sheet_causes F roles (joined rs)) ≡ Clear
      causes_joined roles all = causes_are roles ∙ go roles all
        where
          go : (roles : List (List ℕ)) → has_all roles rs ≡ true
              → first_cause (map (missing F (joined rs)) roles) ≡ Clear
          go [] all = cause_none
          go (ks ∷ roles) all =
              let h = both_true (has ks rs) (has_all roles rs) all in
              let there = ap is_none (find_joined ks) ∙ missing_placed ks rs 0 ∙ ap not h.0 in
              rw (cause_cons, absent 2 (length (joined rs)) there, go roles h.1) (else_clear Clear)

-- ---- the roles of the format that the services take
-- their ranks follow each other
pub standard_roles : Successive standard 0 (roles_of standard)
unfolding role_of
standard_roles = ((refl, tt), ((refl, tt), ((refl, tt), ((refl, tt), tt))))

-- ---- the record of a role that has one kind
-- as a sheet has it, it is the one that would be written
pub kept_fresh : (F : Format) (k : ℕ) (s : List ℕ) → Reads F (k ∷ []) s
    → record_in F s (k ∷ []) ≡ fresh (k ∷ []) (content F (k ∷ []) s)
kept_fresh F k s h =
    let kind = (record_of F (k ∷ []) s).kind in
    ap (λ (n : ℕ). (n, content F (k ∷ []) s)) (eqb-true kind k (sym (among_one kind k) ∙ h.kind))

-- so it is where the role is needed and causes 1 and 2 are absent
pub needed_fresh : (F : Format) (s : List ℕ) (roles : List (List ℕ)) → first_cause (sheet_causes F roles s) ≡ Clear
    → (k : ℕ) → Memᴰ (k ∷ []) roles → record_in F s (k ∷ []) ≡ fresh (k ∷ []) (content F (k ∷ []) s)
needed_fresh F s roles e k m = kept_fresh F k s (clear_reads F (k ∷ []) s (needed_clear F s roles (k ∷ []) m e))
