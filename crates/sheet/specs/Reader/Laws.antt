-- The laws of checks 1 and 2 of a whole sheet and of the reader.
use Rattle.std.specs.Prelude.{is_none}
use Rattle.std.specs.Prelude.{Ok, Err}
use Rattle.sheet.specs.declared.check.Refusal.{Refusal}
use Rattle.std.specs.Prelude.{ℕ, ◌+◌, ◌≤◌, ◌<◌, ◌≡◌, Bool, true, false, ◌&&◌, ◌||◌, leb}
use Rattle.std.proofs.Math.Path.{refl, sym, ap}
use Rattle.std.proofs.Common.{ap₂, ◌∙◌, true≢false, eqb-true, ltb-false, lt-ltb, le-ltb, leb-true, le-leb}
use Rattle.std.proofs.Math.Bool.{or-false}
use Rattle.std.proofs.Math.Logic.{inl, inr}
use mathlib.Core.List.Memᴰ
use mathlib.Core.List.{List, [], ◌∷◌, ◌++◌, map, map-append, append-nil, Memᴰ}
use native.Mathlib.Omega.{arith}
use Rattle.std.proofs.Math.ListN.{length, length-take}
use Rattle.facts.specs.Tests.{true_or_false}
use Rattle.facts.specs.Lists.{among, among_one}
use Rattle.sheet.specs.Check.{refusal◌with◌if◌, ◌else◌, first_cause, Check, Clear, Refused}
use Rattle.std.specs.Prelude.{Option, Some, None}
use Rattle.sheet.specs.declared.record.Record.{Record}
use Rattle.sheet.specs.declared.record.Records.{Records}
use Rattle.sheet.specs.declared.reader.Needs.{Needs}
use Rattle.sheet.specs.declared.parse.Reading.{Reading}
use Rattle.sheet.specs.Check.Laws.{absent, present, clear_absent, else_clear, else_assoc, both_clear, refusal_stays}
use Rattle.sheet.specs.Check.Laws.{cause_before, cause_refuses, clear_refused, either_there, cause_none, cause_cons}
use Rattle.sheet.specs.Check.Laws.{cause_one, cause_append}
use Rattle.sheet.specs.Format.{Format, standard, record_at, end, role_of, rank, cause_at, Parsed, parsed, find}
use Rattle.sheet.specs.Format.{records_by, no_records, records_among, of_role}
use Rattle.sheet.specs.Format.Laws.{clear_inside, clear_rank, parsed_is, parse_induction, none_found, found_cons}
use Rattle.sheet.specs.Format.Laws.{missing_found, end_size, by_kind}
use Rattle.sheet.specs.Reader.{too_long, missing, sheet_causes, when, needed, refusal_of, lacks}
use Rattle.sheet.specs.Reader.{whole_cause, whole_reading, found_in, records_in, lacks_needed}
use Rattle.sheet.specs.Reader.{record_or, record_of, payload_part, part, within, part_within, part_bytes, content}
use Rattle.sheet.specs.Reader.{seen, handed, Reads, machine_payload, word_in, sequence_in, answers_in}
use Rattle.std.specs.Borrow.{Bor}

-- a record that the sheet holds
pub within_inside : (s : List ℕ) (r : Record) → within s (Some r) ≡ Some r → end r ≤ length s
within_inside s r h = elim (true_or_false (leb (end r) (length s))) [
  | inl e ↦ leb-true _ _ e
  | inr e ↦ missing_found (rw e refl) h
]

-- what is not missing is found
pub at_found : (f : Option Record) → is_none f ≡ false → f ≡ Some (record_or f)
at_found (Some r) e = refl
at_found None e = absurd (true≢false e)

pub missing_is : (f : Option Record) → is_none f ≡ true → f ≡ None
missing_is (Some r) e = absurd (true≢false (sym e))
missing_is None e = refl

pub reading_same : {a b : Reading} → a.check ≡ b.check → a.records ≡ b.records → a ≡ b
reading_same c r = λ i. record { check = c i; records = r i }

module _ (F : Format) where
  -- ---- the causes, for any list of needed roles: the length and the records, then what is missing
  pub causes_are : (roles : List (List ℕ)) (s : List ℕ)
      → first_cause (sheet_causes F roles s) ≡ (whole_cause F s else first_cause (map (missing F s) roles))
  unfolding sheet_causes
  causes_are roles s =
      cause_cons _ _ ∙ ap (λ (c : Check). too_long F s else c) (cause_cons _ _) ∙ sym (else_assoc _ _ _)

  pub refusal_is : (ks s : List ℕ) → refusal_of F ks s ≡ (whole_cause F s else missing F s ks)
  unfolding refusal_of
  refusal_is ks s = causes_are (ks ∷ []) s ∙ ap (λ (c : Check). whole_cause F s else c) (cause_one _)

  -- the length of a sheet that is not too long plays no role
  pub whole_short : (s : List ℕ) → length s ≤ F.longest → whole_cause F s ≡ (parsed F s).stop
  whole_short s l = rw (absent 1 F.longest (le-ltb F.longest (length s) l)) (else_clear _)

  -- a sheet that is too long is refused so, whatever is needed
  pub long_refused : (roles : List (List ℕ)) (s : List ℕ) → F.longest < length s
      → first_cause (sheet_causes F roles s) ≡ Refused 1 F.longest
  unfolding sheet_causes
  long_refused roles s l =
      cause_cons _ _ ∙ refusal_stays _ (present 1 F.longest (lt-ltb F.longest (length s) l))

  -- what refuses nothing with more roles needed refuses nothing with fewer
  pub fewer_clear : (roles more : List (List ℕ)) (s : List ℕ) → first_cause (sheet_causes F (roles ++ more) s) ≡ Clear
      → first_cause (sheet_causes F roles s) ≡ Clear
  fewer_clear roles more s e =
      let all = both_clear _ _ (sym (causes_are (roles ++ more) s) ∙ e) in
      let fewer =
      both_clear (first_cause (map (missing F s) roles)) _
      (sym (cause_append (map (missing F s) roles) (map (missing F s) more))
      ∙ ap first_cause (sym (map-append (missing F s) roles more)) ∙ all.1) in
      rw (causes_are roles s, all.0, fewer.0) (else_clear Clear)

  -- a service that does not need the answers refuses no sheet that one that does takes
  pub needed_without_answers : (w q : Bool) (s : List ℕ)
      → first_cause (sheet_causes F (needed F (record { word = w; sequence = q; answers = true })) s) ≡ Clear
      → first_cause (sheet_causes F (needed F (record { word = w; sequence = q; answers = false })) s) ≡ Clear
  needed_without_answers w q s e =
      fewer_clear (needed F (record { word = w; sequence = q; answers = false })) (F.answers ∷ []) s
      (ap (λ (roles : List (List ℕ)). first_cause (sheet_causes F roles s)) (last w q) ∙ e)
    where
      last : (w q : Bool) → needed F (record { word = w; sequence = q; answers = false }) ++ (F.answers ∷ [])
          ≡ needed F (record { word = w; sequence = q; answers = true })
      last true true = refl
      last true false = refl
      last false true = refl
      last false false = refl

  -- ---- what holds of a record that is found
  -- what holds of every record that has no cause 1 or 2 holds of the one that is found, and that one is of the kinds
  module _ (s : List ℕ) (P : Record → Type 0)
      (all : (at last : ℕ) → cause_at F s at last ≡ Clear → P (record_at s at)) where
    found_has : (ks : List ℕ) (r : Record) → find ks (parsed F s).records ≡ Some r → P r × (among r.kind ks ≡ true)
    found_has ks r e =
        parse_induction F s (λ at last w. find ks w.records ≡ Some r → P r × (among r.kind ks ≡ true))
        (λ at last l q. none_found ks q)
        (λ at last n p l c q. none_found ks q)
        (λ at last l c h q. elim (found_cons ks (record_at s at) _ q) [
          | inl x ↦ (rw x.1 at (all at last c), rw x.1 at x.0)
          | inr x ↦ h x
        ])
        0 0 (ap (λ (w : Parsed). find ks w.records) (sym (parsed_is F s)) ∙ e)

  -- it lies inside the sheet
  pub found_inside : (s ks : List ℕ) (r : Record) → find ks (parsed F s).records ≡ Some r → end r ≤ length s
  found_inside s ks r e = (found_has s (λ (x : Record). end x ≤ length s) (clear_inside F s) ks r e).0

  -- its kind is one of those looked for, and a known one
  pub found_kind : (s ks : List ℕ) (r : Record) → find ks (parsed F s).records ≡ Some r → among r.kind ks ≡ true
  found_kind s ks r e = (found_has s (λ (x : Record). end x ≤ length s) (clear_inside F s) ks r e).1

  pub found_known : (s ks : List ℕ) (r : Record) → find ks (parsed F s).records ≡ Some r
      → 0 < rank (role_of F r.kind)
  found_known s ks r e =
      (found_has s (λ (x : Record). 0 < rank (role_of F x.kind)) (λ at last q. omega (arith, clear_rank F s at last q))
      ks r e).0

  -- a wanted kind that no sheet can have is missing from every sheet: refusal 2 at the sheet's length, where
  -- nothing comes before it
  unknown_none : (s : List ℕ) (k : ℕ) → rank (role_of F k) ≡ 0 → is_none (find (k ∷ []) (parsed F s).records) ≡ true
  unknown_none s k h = elim (true_or_false (is_none (find (k ∷ []) (parsed F s).records))) [
    | inl e ↦ e
    | inr e ↦ (let q = at_found _ e in
        let same = eqb-true _ k (sym (among_one _ k) ∙ found_kind s (k ∷ []) _ q) in
        absurd (omega (arith, rw same at (found_known s (k ∷ []) _ q))))
  ]

  pub unknown_missing : (s : List ℕ) (k : ℕ) → rank (role_of F k) ≡ 0 → missing F s (k ∷ []) ≡ Refused 2 (length s)
  unknown_missing s k h = present 2 (length s) (unknown_none s k h)

  pub unknown_refused : (s : List ℕ) (k : ℕ) → rank (role_of F k) ≡ 0
      → refusal_of F (k ∷ []) s ≡ (whole_cause F s else Refused 2 (length s))
  unknown_refused s k h = rw (refusal_is, unknown_missing s k h)

  -- ---- what one pass finds
  pub found_clear : (ks s : List ℕ) → whole_cause F s ≡ Clear → found_in F ks s ≡ find ks (parsed F s).records
  unfolding found_in
  found_clear ks s e = rw e

  pub found_refused : (ks s : List ℕ) {n p : ℕ} → whole_cause F s ≡ Refused n p → found_in F ks s ≡ None
  unfolding found_in
  found_refused ks s e = rw e

  pub records_clear : (s : List ℕ) → whole_cause F s ≡ Clear → records_in F s ≡ records_among F (parsed F s).records
  unfolding found_in
  records_clear s e = rw e refl

  pub records_refused : (s : List ℕ) {n p : ℕ} → whole_cause F s ≡ Refused n p → records_in F s ≡ no_records
  unfolding found_in
  records_refused s e = rw e refl

  -- code that has the records, or the refusal
  pub reading_clear : (s : List ℕ) {rs : Records} → whole_reading F s ≡ Ok rs
      → (whole_cause F s ≡ Clear) × (rs ≡ records_in F s)
  reading_clear s e = cause_before (whole_cause F s) e

  pub reading_refused : (s : List ℕ) {r : Refusal} → whole_reading F s ≡ Err r → whole_cause F s ≡ Err r
  reading_refused s e = cause_refuses (whole_cause F s) _ e

  pub unknown_found : (s : List ℕ) (k : ℕ) → rank (role_of F k) ≡ 0 → found_in F (k ∷ []) s ≡ None
  unknown_found s k h = go (whole_cause F s) refl
    where
      go : (c : Check) → whole_cause F s ≡ c → found_in F (k ∷ []) s ≡ None
      go Clear e = found_clear (k ∷ []) s e ∙ missing_is _ (unknown_none s k h)
      go (Err r) e = found_refused (k ∷ []) s e

  -- causes 1 and 2 by what is found: what is missing counts only where nothing comes before it
  lacks_causes : (s : List ℕ) → whole_cause F s ≡ Clear → (roles : List (List ℕ))
      → (refusal 2 with length s if lacks (λ ks. found_in F ks s) roles) ≡ first_cause (map (missing F s) roles)
  lacks_causes s e [] = absent 2 (length s) refl ∙ sym cause_none
  lacks_causes s e (ks ∷ roles) =
      sym (either_there 2 (length s) _ _)
      ∙ ap₂ ◌else◌ (ap (λ (f : Option Record). refusal 2 with length s if is_none f) (found_clear ks s e))
      (lacks_causes s e roles)
      ∙ sym (cause_cons _ _)

  pub causes_found : (roles : List (List ℕ)) (s : List ℕ)
      → (whole_cause F s else (refusal 2 with length s if lacks (λ ks. found_in F ks s) roles))
      ≡ first_cause (sheet_causes F roles s)
  causes_found roles s = go (whole_cause F s) refl ∙ sym (causes_are roles s)
    where
      go : (c : Check) → whole_cause F s ≡ c
          → (whole_cause F s else (refusal 2 with length s if lacks (λ ks. found_in F ks s) roles))
          ≡ (whole_cause F s else first_cause (map (missing F s) roles))
      go Clear e = ap (λ (c : Check). whole_cause F s else c) (lacks_causes s e roles)
      go (Err r) e = refusal_stays _ e ∙ sym (refusal_stays _ e)

  pub refusal_found : (ks s : List ℕ)
      → (whole_cause F s else (refusal 2 with length s if is_none (found_in F ks s))) ≡ refusal_of F ks s
  unfolding refusal_of
  refusal_found ks s =
      ap (λ (b : Bool). whole_cause F s else (refusal 2 with length s if b)) (sym (or-false _))
      ∙ causes_found (ks ∷ []) s

  -- the same for the roles that a service needs
  lacks_when : (f : List ℕ → Option Record) (b : Bool) (ks : List ℕ) (roles : List (List ℕ))
      → lacks f (when b (ks ∷ []) ++ roles) ≡ ((b && is_none (f ks)) || lacks f roles)
  lacks_when f true ks roles = refl
  lacks_when f false ks roles = refl

  lacks_needed_lem : (n : Needs) (f : List ℕ → Option Record) → lacks f (needed F n) ≡ lacks_needed n (records_by F f)
  lacks_needed_lem n f =
      rw (
        lacks_when f n.word F.word _,
        lacks_when f n.sequence F.sequence _,
        ← append-nil (when n.answers (F.answers ∷ [])),
        lacks_when f n.answers F.answers [],
        or-false (n.answers && is_none (f F.answers)),
      )

  pub checks_found : (n : Needs) (s : List ℕ)
      → (whole_cause F s else (refusal 2 with length s if lacks_needed n (records_in F s)))
      ≡ first_cause (sheet_causes F (needed F n) s)
  checks_found n s =
      ap (λ (b : Bool). whole_cause F s else (refusal 2 with length s if b))
      (sym (lacks_needed_lem n (λ ks. found_in F ks s)))
      ∙ causes_found (needed F n) s

  -- ---- the part that reading gives
  -- on a refusal it is the empty one at the sheet's start, whichever cause is present
  pub part_refused : (ks s : List ℕ) {n p : ℕ} → refusal_of F ks s ≡ Refused n p → part F ks s ≡ payload_part None
  unfolding part
  part_refused ks s e = ap payload_part (go (whole_cause F s) refl)
    where
      go : (c : Check) → whole_cause F s ≡ c → found_in F ks s ≡ None
      go (Err r) q = found_refused ks s q
      go Clear q = elim (true_or_false (is_none (found_in F ks s))) [
        | inl t ↦ missing_is _ t
        | inr t ↦ clear_refused (sym (refusal_found ks s) ∙ rw (q, absent 2 (length s) t) (else_clear Clear)) e
      ]

  -- what one pass finds lies inside the sheet
  pub found_within : (ks s : List ℕ) (f : Option Record) → found_in F ks s ≡ f → within s f ≡ f
  found_within ks s None e = refl
  found_within ks s (Some r) e = go (whole_cause F s) refl
    where
      go : (c : Check) → whole_cause F s ≡ c → within s (Some r) ≡ Some r
      go Clear q = simp (le-leb _ _ (found_inside s ks r (sym (found_clear ks s q) ∙ e)))
      go (Err r) q = missing_found (found_refused ks s q) e

  pub part_within_lem : (ks s : List ℕ) {f : Option Record} → f ≡ found_in F ks s → part_within s f ≡ part F ks s
  unfolding part part_within
  part_within_lem ks s e = ap payload_part (found_within ks s _ (sym e) ∙ e)

  pub record_is : (ks s : List ℕ) {f : Option Record} → f ≡ found_in F ks s → record_or f ≡ record_of F ks s
  unfolding record_of
  record_is ks s e = ap record_or e

  -- a record starts inside the sheet, and its payload ends there
  inside_of : (s : List ℕ) (f : Option Record) → within s f ≡ f
      → (record_or f).start + length (part_bytes (payload_part f) s) ≤ length s
  unfolding part_bytes
  inside_of s (Some r) h = simp length-take (omega (arith, end_size r, within_inside s r h))
  inside_of s None h = omega arith

  pub record_inside : (ks s : List ℕ) → (record_of F ks s).start + length (content F ks s) ≤ length s
  unfolding record_of content part
  record_inside ks s = inside_of s (found_in F ks s) (found_within ks s (found_in F ks s) refl)

  -- the bytes that reading gives
  pub handed_content : (ks : List ℕ) (s w : Bor (List ℕ)) → seen w ≡ handed s (part F ks s.now)
      → w.now ≡ content F ks s.now
  unfolding handed content
  handed_content ks s w e = ap (λ (x : (ℕ × ℕ) × List ℕ). x.1) e

  -- those of a record that one pass found
  pub payload_content : (ks : List ℕ) (s w : Bor (List ℕ)) {f : Option Record} → f ≡ found_in F ks s.now
      → seen w ≡ handed s (part_within s.now f) → w.now ≡ content F ks s.now
  payload_content ks s w e h = handed_content ks s w (h ∙ ap (handed s) (part_within_lem ks s.now e))

  -- ---- where checks 1 and 2 are clear
  clear_missing : (s : List ℕ) (roles : List (List ℕ)) (ks : List ℕ) → Memᴰ ks roles
      → first_cause (map (missing F s) roles) ≡ Clear → missing F s ks ≡ Clear
  clear_missing s [] ks m e = absurd (Memᴰ.not-nil m)
  clear_missing s (l ∷ roles) ks m e =
      let h = both_clear (missing F s l) _ (sym (cause_cons _ _) ∙ e) in
      elim (Memᴰ.cases_cons m) [ inl q ↦ rw q h.0 | inr q ↦ clear_missing s roles ks q h.1 ]

  pub causes_clear : (roles : List (List ℕ)) (s : List ℕ) → first_cause (sheet_causes F roles s) ≡ Clear
      → (too_long F s ≡ Clear) × ((parsed F s).stop ≡ Clear) × (first_cause (map (missing F s) roles) ≡ Clear)
  unfolding sheet_causes
  causes_clear roles s e =
      let one = both_clear (too_long F s) _ (sym (cause_cons _ _) ∙ e) in
      let two = both_clear (parsed F s).stop _ (sym (cause_cons _ _) ∙ one.1) in
      (one.0, two.0, two.1)

  -- the sheet is no longer than the longest
  pub sheet_short : (roles : List (List ℕ)) (s : List ℕ) → first_cause (sheet_causes F roles s) ≡ Clear
      → length s ≤ F.longest
  sheet_short roles s e = ltb-false _ _ (clear_absent 1 F.longest _ (causes_clear roles s e).0)

  -- reading what is needed is not refused
  pub needed_clear : (s : List ℕ) (roles : List (List ℕ)) (ks : List ℕ) → Memᴰ ks roles
      → first_cause (sheet_causes F roles s) ≡ Clear → refusal_of F ks s ≡ Clear
  unfolding ◌else◌
  needed_clear s roles ks m e =
      let c = causes_clear roles s e in
      rw (refusal_is, c.0, c.1) (clear_missing s roles ks m c.2)

  -- and reading it is as `Reads` says
  pub clear_reads : (ks s : List ℕ) → refusal_of F ks s ≡ Clear → Reads F ks s
  unfolding record_of part
  clear_reads ks s e =
      let both = both_clear _ _ (refusal_found ks s ∙ e) in
      let is = at_found (found_in F ks s) (clear_absent 2 (length s) _ both.1) in
      let q = sym (found_clear ks s both.0) ∙ is in
      record {
        kind = found_kind s ks _ q;
        from = ap (λ (f : Option Record). (payload_part f).from) is;
        size = ap (λ (f : Option Record). (payload_part f).size) is;
        inside = found_inside s ks _ q;
      }

  -- ---- machine and word among the needed roles, for a service to cite of each that it reads
  on_needed : {b : Bool} (ks : List ℕ) → b ≡ true → Memᴰ ks (when b (ks ∷ []))
  on_needed ks e = rw e (Memᴰ.head refl)

  pub needed_machine : (n : Needs) → Memᴰ F.machine (needed F n)
  needed_machine n = Memᴰ.head refl

  pub needed_word : (n : Needs) → n.word ≡ true → Memᴰ F.word (needed F n)
  needed_word n e = Memᴰ.tail (Memᴰ.append_left _ (on_needed F.word e))

-- ---- the parts of a sheet in the format that the services take, by the records that one pass gives
module _ (s w : Bor (List ℕ)) {rs : Records} (e : rs ≡ records_in standard s.now) where
  pub machine_read : seen w ≡ handed s (part_within s.now rs.machine) → w.now ≡ machine_payload s.now
  machine_read = payload_content standard standard.machine s w (ap (λ (r : Records). r.machine) e)

  pub word_read : seen w ≡ handed s (part_within s.now rs.word) → w.now ≡ word_in s.now
  word_read = payload_content standard standard.word s w (ap (λ (r : Records). r.word) e)

  pub sequence_read : seen w ≡ handed s (part_within s.now rs.sequence) → w.now ≡ sequence_in s.now
  sequence_read = payload_content standard standard.sequence s w (ap (λ (r : Records). r.sequence) e)

  pub answers_read : seen w ≡ handed s (part_within s.now rs.answers) → w.now ≡ answers_in s.now
  answers_read = payload_content standard standard.answers s w (ap (λ (r : Records). r.answers) e)

-- ---- a kind there: what is found is the record of its role
pub found_by_kind : (k : ℕ) (s : List ℕ)
    → found_in standard (k ∷ []) s ≡ of_role (records_in standard s) (role_of standard k)
unfolding role_of
found_by_kind k s =
    by_kind (λ k role. found_in standard (k ∷ []) s ≡ of_role (records_in standard s) role) refl refl refl refl
    (λ k a b c d. unknown_found standard s k (rw (a, b, c, d) refl)) k
