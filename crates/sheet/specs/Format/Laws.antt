-- The laws of the format: how the parsing goes on and ends, what holds of it by induction, where its records lie,
-- and looking for a kind.
use Rattle.std.specs.Prelude.{Err}
use Prim.Native.Nat.{ℕ, zero, suc, ◌+◌, ◌-◌, ◌≤◌, ◌<◌}
use Rattle.std.specs.Prelude.{◌≡◌, true, false, cond, ◌||◌, ◌⊎◌, List, [], ◌∷◌, eqb}
use Rattle.std.proofs.Math.Path.{refl}
use Rattle.std.proofs.Common.{sym, ap, ap₂, ◌∙◌, inl, inr, arith}
use Rattle.std.proofs.Math.Dec.{ltb}
use Rattle.std.proofs.Math.ListN.{length}
use borrow.Author.Tests.{lt-ltb, le-ltb, lt-leb, ltb-false, leb-false, eqb-true}
use Rattle.facts.specs.Tests.{true_or_false, neither}
use Rattle.facts.specs.Numbers.{less_or_not}
use Rattle.facts.specs.Lists.{among}
use Rattle.sheet.specs.Check.{refusal◌with◌if◌, ◌else◌, Check, Clear, Refused}
use Rattle.std.specs.Prelude.{Option, Some, None}
use Rattle.sheet.specs.declared.format.Role.{Role}
use Rattle.sheet.specs.declared.format.Role.TheVariants.{Machine, Word, Sequence, Answers, Unknown}
use Rattle.sheet.specs.declared.record.Record.{Record}
use Rattle.sheet.specs.declared.record.Records.{Records}
use Rattle.sheet.specs.Check.Laws.{clear_absent, both_clear}
use Rattle.sheet.specs.Format.{Format, standard, header, record_at, end, role_of, rank_in, cause1, cause2}
use Rattle.sheet.specs.Format.{cause_of, cause_at}
use Rattle.sheet.specs.Format.{Parsed, ended, ◌before◌, parse_step, parse_from, parse, parsed, of_kind, ◌or◌, find}
use Rattle.sheet.specs.Format.{new_kind, records_by, no_records, one_record, in_role, ◌or_each◌, records_among}

-- ---- the start, the end and cause 1 of a record
pub start_at : (s : List ℕ) (at : ℕ) → (record_at s at).start ≡ at
unfolding record_at
start_at s at = refl

pub end_size : (r : Record) → end r ≡ r.start + header + r.size
unfolding end
end_size r = refl

pub end_is : (s : List ℕ) (at : ℕ) (r : Record) → r ≡ record_at s at → end (record_at s at) ≡ at + header + r.size
end_is s at r e = end_size (record_at s at) ∙ ap₂ (λ (x : ℕ) (y : Record). x + header + y.size) (start_at s at) (sym e)

pub end_after : (s : List ℕ) (at : ℕ) → at + header ≤ end (record_at s at)
unfolding end record_at
end_after s at = omega arith

module _ (F : Format) where
  -- ---- what a clear record shows
  pub clear_inside : (s : List ℕ) (at last : ℕ) → cause_at F s at last ≡ Clear → end (record_at s at) ≤ length s
  unfolding cause_of cause1
  clear_inside s at last e =
      let r = record_at s at in
      let past = ltb (length s) (r.start + header) in
      let over = ltb (length s) (end r) in
      let here = (both_clear (cause1 (length s) r) (cause2 F r last) e).0 in
      ltb-false _ _ (neither past over (clear_absent 1 r.start (past || over) here)).1

  pub clear_rank : (s : List ℕ) (at last : ℕ) → cause_at F s at last ≡ Clear → last < rank_in F (record_at s at)
  unfolding cause_of cause2
  clear_rank s at last e =
      let r = record_at s at in
      leb-false _ _ (clear_absent 2 r.start _ (both_clear (cause1 (length s) r) (cause2 F r last) e).1)

  -- and what makes a record clear
  clear_of : (bytes last : ℕ) (r : Record) → end r ≤ bytes → last < rank_in F r → cause_of F bytes r last ≡ Clear
  unfolding cause_of cause1 cause2 refusal◌with◌if◌ ◌else◌
  clear_of bytes last r b c =
      rw (le-ltb _ _ (let a : r.start + header ≤ bytes = omega (arith, end_size r) in a), le-ltb _ _ b, lt-leb _ _ c)

  -- ---- the bound on the steps plays no part
  enough : (f g : ℕ) (s : List ℕ) (at last : ℕ) → length s - at ≤ f → length s - at ≤ g
      → parse_from f F s at last ≡ parse_from g F s at last
  unfolding parse_from parse_step
  enough zero zero s at last p q = refl
  enough zero (suc g) s at last p q = rw (le-ltb at (length s) (omega arith))
  enough (suc f) zero s at last p q = rw (le-ltb at (length s) (omega arith))
  enough (suc f) (suc g) s at last p q =
      let more = end_after s at in
      rw (enough f g s (end (record_at s at)) (rank_in F (record_at s at)) (omega arith) (omega arith))

  -- at the sheet's end the parsing ends
  pub parse_end : (s : List ℕ) (at last : ℕ) → length s ≤ at → parse F s at last ≡ ended Clear
  unfolding parse parse_from
  parse_end s at last h = enough (length s - at) 0 s at last (omega arith) (omega arith)

  -- before it, a cause stops it, and else the record comes before what follows it
  pub parse_on : (s : List ℕ) (at last : ℕ) → at < length s
      → parse F s at last
      ≡ parse_step true (cause_at F s at last) (record_at s at)
      (parse F s (end (record_at s at)) (rank_in F (record_at s at)))
  unfolding parse parse_from
  parse_on s at last h =
      let left = length s - (at + 1) in
      let next = end (record_at s at) in
      let behind = end_after s at in
      let rest = enough left (length s - next) s next (rank_in F (record_at s at)) (omega arith) (omega arith) in
      rw (lt-ltb at (length s) h, rest) at (enough (length s - at) (suc left) s at last (omega arith) (omega arith))

  -- the record that stops the parsing
  pub parse_stopped : (s : List ℕ) (at last n p : ℕ) → at < length s → cause_at F s at last ≡ Refused n p
      → parse F s at last ≡ ended (Refused n p)
  unfolding parse_step
  parse_stopped s at last n p h e = parse_on s at last h ∙ rw e

  -- a record in order
  pub parse_record : (s : List ℕ) (at last : ℕ) → at < length s → cause_at F s at last ≡ Clear
      → parse F s at last ≡ (record_at s at before parse F s (end (record_at s at)) (rank_in F (record_at s at)))
  unfolding parse_step
  parse_record s at last h e = parse_on s at last h ∙ rw e

  pub parse_as : (s : List ℕ) (at last : ℕ) {r : Record} → record_at s at ≡ r → end r ≤ length s → last < rank_in F r
      → parse F s at last ≡ (r before parse F s (end r) (rank_in F r))
  parse_as s at last {r} e b c =
      let more = end_after s at in
      let inside : end (record_at s at) ≤ length s = rw e b in
      rw e at (parse_record s at last (omega arith)
      (ap (λ (x : Record). cause_of F (length s) x last) e ∙ clear_of (length s) last r b c))

  -- the whole sheet
  pub parsed_is : (s : List ℕ) → parsed F s ≡ parse F s 0 0
  unfolding parsed
  parsed_is s = refl

  -- ---- what holds where the parsing ends, where a cause stops it, and of a record before what follows, wherever it
  -- holds of that, holds of the parsing
  module _ (s : List ℕ) (P : ℕ → ℕ → Parsed → Type 0) (ends : (at last : ℕ) → length s ≤ at → P at last (ended Clear))
      (stops : (at last n p : ℕ) → at < length s → cause_at F s at last ≡ Refused n p → P at last (ended (Refused n p)))
      (goes_on : (at last : ℕ) → at < length s → cause_at F s at last ≡ Clear
      → P (end (record_at s at)) (rank_in F (record_at s at)) (parse F s (end (record_at s at)) (rank_in F (record_at s at)))
      → P at last (record_at s at before parse F s (end (record_at s at)) (rank_in F (record_at s at)))) where
    turn : (at last : ℕ)
        → (at < length s
        → P (end (record_at s at)) (rank_in F (record_at s at)) (parse F s (end (record_at s at)) (rank_in F (record_at s at))))
        → P at last (parse F s at last)
    turn at last rest = elim (less_or_not at (length s)) [
      | inl h ↦ check h (cause_at F s at last) refl
      | inr h ↦ rw (parse_end s at last h) (ends at last h)
    ]
      where
        check : at < length s → (c : Check) → cause_at F s at last ≡ c → P at last (parse F s at last)
        check h Clear e = rw (parse_record s at last h e) (goes_on at last h e (rest h))
        check h (Err r) e =
            rw (parse_stopped s at last r.number r.place h e) (stops at last r.number r.place h e)

    turns : (f at last : ℕ) → length s - at ≤ f → P at last (parse F s at last)
    turns zero at last l = turn at last (λ h. let z : ⊥ = omega arith in absurd z)
    turns (suc f) at last l =
        turn at last (λ h. turns f (end (record_at s at)) (rank_in F (record_at s at)) (omega (arith, end_after s at)))

    pub parse_induction : (at last : ℕ) → P at last (parse F s at last)
    parse_induction at last = turns (length s) at last (omega arith)

-- ---- looking for a kind
-- a missing record is not found
pub missing_found : {A : Type 0} {f : Option Record} {r : Record} → f ≡ None → f ≡ Some r → A
missing_found e h = let z : ◌≡◌ {A = ℕ} 0 1 = cc in absurd (omega arith)

pub or_missing : (f : Option Record) → (f or None) ≡ f
unfolding ◌or◌
or_missing (Some r) = refl
or_missing None = refl

pub missing_or : (f : Option Record) → (None or f) ≡ f
unfolding ◌or◌
missing_or f = refl

pub or_assoc : (f g h : Option Record) → ((f or g) or h) ≡ (f or (g or h))
unfolding ◌or◌
or_assoc (Some r) g h = refl
or_assoc None g h = refl

pub find_none : (ks : List ℕ) → find ks [] ≡ None
unfolding find
find_none ks = refl

pub find_cons : (ks : List ℕ) (r : Record) (rs : List Record) → find ks (r ∷ rs) ≡ (of_kind ks r or find ks rs)
unfolding find
find_cons ks r rs = refl

-- among no records, none is found
pub none_found : {A : Type 0} (ks : List ℕ) {r : Record} → find ks [] ≡ Some r → A
none_found ks e = missing_found (find_none ks) e

-- what is found is the first record, which is then of one of the kinds, or is found among the others
pub found_cons : (ks : List ℕ) (a : Record) (rs : List Record) {r : Record} → find ks (a ∷ rs) ≡ Some r
    → ((among a.kind ks ≡ true) × (a ≡ r)) ⊎ (find ks rs ≡ Some r)
unfolding find of_kind ◌or◌
found_cons ks a rs q = elim (true_or_false (among a.kind ks)) [
  | inl e ↦ inl (e, cc (rw e at q))
  | inr e ↦ inr (rw e at q)
]

-- ---- the same for all roles
pub records_same : {a b : Records} → a.machine ≡ b.machine → a.word ≡ b.word → a.sequence ≡ b.sequence
    → a.answers ≡ b.answers → a ≡ b
records_same m w q y = λ i. record { machine = m i; word = w i; sequence = q i; answers = y i }

pub each_none : (a : Records) → (a or_each no_records) ≡ a
each_none a = records_same (or_missing _) (or_missing _) (or_missing _) (or_missing _)

pub none_each : (a : Records) → (no_records or_each a) ≡ a
none_each a = records_same (missing_or _) (missing_or _) (missing_or _) (missing_or _)

pub each_assoc : (a b c : Records) → ((a or_each b) or_each c) ≡ (a or_each (b or_each c))
each_assoc a b c = records_same (or_assoc _ _ _) (or_assoc _ _ _) (or_assoc _ _ _) (or_assoc _ _ _)

pub among_none : (F : Format) → records_among F [] ≡ no_records
among_none F = records_same (find_none _) (find_none _) (find_none _) (find_none _)

pub among_cons : (F : Format) (r : Record) (rs : List Record)
    → records_among F (r ∷ rs) ≡ (one_record F r or_each records_among F rs)
among_cons F r rs = records_same (find_cons _ r rs) (find_cons _ r rs) (find_cons _ r rs) (find_cons _ r rs)

-- ---- the kinds of the format that the services take
-- what holds of each kind with its role, and of any other number with none, holds of every number with the role that
-- it stands for
pub by_kind : (P : ℕ → Role → Type 0) → P (new_kind standard Machine) Machine → P (new_kind standard Word) Word
    → P (new_kind standard Sequence) Sequence → P (new_kind standard Answers) Answers
    → ((k : ℕ) → eqb k (new_kind standard Machine) ≡ false → eqb k (new_kind standard Word) ≡ false
    → eqb k (new_kind standard Sequence) ≡ false → eqb k (new_kind standard Answers) ≡ false → P k Unknown)
    → (k : ℕ) → P k (role_of standard k)
unfolding role_of
by_kind P m w q y none k = elim (true_or_false (eqb k (new_kind standard Machine))) [
  | inl e ↦ rw (eqb-true k (new_kind standard Machine) e) m
  | inr a ↦ (elim (true_or_false (eqb k (new_kind standard Word))) [
    | inl e ↦ rw (eqb-true k (new_kind standard Word) e) w
    | inr b ↦ (elim (true_or_false (eqb k (new_kind standard Sequence))) [
      | inl e ↦ rw (eqb-true k (new_kind standard Sequence) e) q
      | inr c ↦ (elim (true_or_false (eqb k (new_kind standard Answers))) [
        | inl e ↦ rw (eqb-true k (new_kind standard Answers) e) y
        | inr d ↦ rw (a, b, c, d) (none k a b c d)
      ])
    ])
  ])
]

-- a record is found as that of its role alone
pub in_role_lem : (r : Record) → one_record standard r ≡ in_role r (role_of standard r.kind)
unfolding of_kind
in_role_lem r =
    by_kind (λ k role. records_by standard (λ ks. cond (among k ks) (Some r) None) ≡ in_role r role) refl refl refl refl
    (λ k a b c d. rw (a, b, c, d) refl) r.kind

-- so what is found with it is what is found or, of its role, the record
pub with_role : (found : Records) (r : Record) {role : Role} → role ≡ role_of standard r.kind
    → (found or_each in_role r role) ≡ (found or_each one_record standard r)
with_role found r e = ap (λ (f : Records). found or_each f) (ap (in_role r) e ∙ sym (in_role_lem r))
