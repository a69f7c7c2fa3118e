-- Sheets without causes 1 and 2 that have the first roles of their format: the records of these come first.
use Rattle.std.specs.Prelude.{is_none}
use Prim.Native.Nat.{ℕ, zero, suc, ◌+◌, ◌-◌, ◌≤◌, ◌<◌}
use Rattle.std.specs.Prelude.{◌≡◌, refl, true, false, not, ◌⊎◌, get_or, take, drop}
use Rattle.std.proofs.Math.Path.{sym, ap, ap₂, subst}
use Rattle.std.proofs.Common.{◌∙◌, true≢false, arith, take_at}
use Rattle.std.proofs.Math.Bool.{or-true}
use Rattle.std.proofs.Math.Logic.{inl, inr}
use mathlib.Core.List.{List, [], ◌∷◌, ◌++◌, map, append-nil}
use Rattle.std.proofs.Math.Nat.{add-zero}
use Rattle.std.proofs.Math.ListN.{length}
use Rattle.facts.specs.Tests.{true_or_false}
use Rattle.facts.specs.Lists.{among, Each, each_among}
use Rattle.facts.specs.Bytes.{Bytes}
use Rattle.sheet.specs.Check.{first_cause, Clear}
use Rattle.std.specs.Prelude.{Option, Some}
use Rattle.sheet.specs.declared.record.Record.{Record}
use Rattle.sheet.specs.declared.format.Role.{Role}
use Rattle.sheet.specs.declared.format.Role.TheVariants.{Machine, Word, Sequence, Answers, Unknown}
use Rattle.sheet.specs.Check.Laws.{clear_absent, else_clear, both_clear, cause_cons}
use Rattle.sheet.specs.Format.{Format, standard, header, end, role_of, rank, parsed, of_kind, ◌or◌, find}
use Rattle.sheet.specs.Format.Laws.{none_found}
use Rattle.sheet.specs.Reader.{missing, sheet_causes, record_or, record_of, content}
use Rattle.sheet.specs.Reader.Laws.{at_found, found_clear, causes_clear, sheet_short}
use Rattle.sheet.specs.Joining.{joined, placed, InOrder, payload_of, contents, record_in, roles_of, Successive}
use Rattle.sheet.specs.Joining.{bytes_of, has, Lacks, Adjacent, last_end}
use Rattle.sheet.specs.Joining.Laws.{joined_none, joined_one, joined_long, joined_append, missing_placed}
use Rattle.sheet.specs.Joining.Laws.{content_joined, standard_roles}
use Rattle.sheet.specs.Joining.Whole.{whole, contents_in_order, contents_placed}

-- records from an offset on and above a rank that begin with those of some roles: the others, and where these end
pub record Front (F : Format) (s : List ℕ) (at last : ℕ) (roles : List (List ℕ)) (cs : List (ℕ × List ℕ)) : Type 0 where
  pub rest : List (ℕ × List ℕ)
  pub is : cs ≡ map (record_in F s) roles ++ rest
  pub order : InOrder F (last + length roles) rest
  pub adjacent : Adjacent F s at roles
  pub ends : last_end F s at roles ≡ at + length (joined (map (record_in F s) roles))

-- ---- the roles behind the first ones
rank_four : (k : Role) → rank k ≤ 4
rank_four Machine = omega arith
rank_four Word = omega arith
rank_four Sequence = omega arith
rank_four Answers = omega arith
rank_four Unknown = omega arith

-- a known kind is one of those of the role that has its rank
ranked : (F : Format) (k : ℕ) → 0 < rank (role_of F k)
    → among k (get_or (roles_of F) (rank (role_of F k) - 1) []) ≡ true
unfolding role_of
ranked F k l = elim (true_or_false (among k F.machine)) [
  | inl e ↦ rw (e, e)
  | inr a ↦ (elim (true_or_false (among k F.word)) [
    | inl e ↦ rw (a, e, e)
    | inr b ↦ (elim (true_or_false (among k F.sequence)) [
      | inl e ↦ rw (a, b, e, e)
      | inr c ↦ (elim (true_or_false (among k F.answers)) [
        | inl e ↦ rw (a, b, c, e, e)
        | inr d ↦ (let z : ⊥ = omega (arith, rw (a, b, c, d) at l) in absurd z)
      ])
    ])
  ])
]

-- one that the sheet lacks, among those behind the first n
lacking : (F : Format) (s : List ℕ) (roles : List (List ℕ)) (n i : ℕ) → Lacks F s (drop n roles) → n ≤ i
    → i < length roles → is_none (find (get_or roles i []) (parsed F s).records) ≡ true
lacking F s [] n i h l m = let z : ⊥ = omega arith in absurd z
lacking F s (ks ∷ roles) zero zero h l m = h.0
lacking F s (ks ∷ roles) zero (suc i) h l m = lacking F s roles zero i h.1 (omega arith) (omega arith)
lacking F s (ks ∷ roles) (suc n) zero h l m = let z : ⊥ = omega arith in absurd z
lacking F s (ks ∷ roles) (suc n) (suc i) h l m = lacking F s roles n i h (omega arith) (omega arith)

-- a record behind others
has_behind : (ks : List ℕ) (rs : List (ℕ × List ℕ)) (c : ℕ × List ℕ) (cs : List (ℕ × List ℕ))
    → among c.0 ks ≡ true → has ks (rs ++ (c ∷ cs)) ≡ true
has_behind ks [] c cs e = rw e
has_behind ks (r ∷ rs) c cs e = rw (has_behind ks rs c cs e) (or-true (among r.0 ks))

module _ (F : Format) (s : List ℕ) where
  -- the record of a role is found among these, and carries what reading gives
  abbrev Here : ℕ → List (ℕ × List ℕ) → List ℕ → Type 0
  Here at cs ks = (find ks (placed at cs) ≡ Some (record_of F ks s)) × (payload_of ks cs ≡ content F ks s)

  abbrev AllHere : ℕ → List (ℕ × List ℕ) → List (List ℕ) → Type 0
  AllHere at cs [] = Unit {0}
  AllHere at cs (ks ∷ roles) = Here at cs ks × AllHere at cs roles

  abbrev new : ℕ → ℕ × List ℕ → Record
  new at c = record { start = at; size = length c.1; kind = c.0 }

  -- that of a role of rank n is the first of them, or one of the others
  first_or : (at : ℕ) (c : ℕ × List ℕ) (cs : List (ℕ × List ℕ)) (n : ℕ) (ks : List ℕ)
      → Each (λ k. rank (role_of F k) ≡ n) ks → Here at (c ∷ cs) ks
      → ((rank (role_of F c.0) ≡ n) × (record_of F ks s ≡ new at c) × (record_in F s ks ≡ c))
      ⊎ Here (end (new at c)) cs ks
  unfolding find of_kind ◌or◌ end
  first_or at c cs n ks u h = elim (true_or_false (among c.0 ks)) [
    | inl e ↦ (let is : record_of F ks s ≡ new at c = cc (rw e at h.0) in
        let same : record_in F s ks ≡ c = ap₂ (λ (r : Record) (xs : List ℕ). (r.kind, xs)) is (sym (rw e at h.1)) in
        inl (each_among (λ k. rank (role_of F k) ≡ n) c.0 ks u e, is, same))
    | inr e ↦ inr (rw e at h.0, rw e at h.1)
  ]

  -- its rank is above that before
  later : (cs : List (ℕ × List ℕ)) (at last n : ℕ) (ks : List ℕ) → Each (λ k. rank (role_of F k) ≡ n) ks
      → InOrder F last cs → Here at cs ks → last < n
  later [] at last n ks u h t = none_found ks t.0
  later (c ∷ cs) at last n ks u h t = elim (first_or at c cs n ks u t) [
    | inl x ↦ omega (arith, x.0, h.0)
    | inr y ↦ omega (arith, later cs (end (new at c)) (rank (role_of F c.0)) n ks u h.3 y, h.0)
  ]

  -- behind a record of a lower rank all are found that were
  found_behind : (at : ℕ) (c : ℕ × List ℕ) (cs : List (ℕ × List ℕ)) (n : ℕ) (roles : List (List ℕ))
      → rank (role_of F c.0) ≤ n → Successive F n roles → AllHere at (c ∷ cs) roles
      → AllHere (end (new at c)) cs roles
  found_behind at c cs n [] l u t = tt
  found_behind at c cs n (ks ∷ roles) l u t =
      let one : Here (end (new at c)) cs ks = elim (first_or at c cs (n + 1) ks u.0 t.0) [
        | inl x ↦ (let z : ⊥ = omega (arith, x.0) in absurd z)
        | inr y ↦ y
      ] in
      (one, found_behind at c cs (n + 1) roles (omega arith) u.1 t.1)

  split : (roles : List (List ℕ)) (cs : List (ℕ × List ℕ)) (at last : ℕ) → InOrder F last cs → Successive F last roles
      → AllHere at cs roles → Front F s at last roles cs
  unfolding end
  split [] cs at last h u t =
      record {
        rest = cs;
        is = refl;
        order = rw add-zero h;
        adjacent = tt;
        ends = rw joined_none (sym (add-zero at));
      }
  split (ks ∷ roles) [] at last h u t = none_found ks t.0.0
  split (ks ∷ roles) (c ∷ cs) at last h u t = elim (first_or at c cs (last + 1) ks u.0 t.0) [
    | inl x ↦ (let more =
        split roles cs (end (new at c)) (last + 1) (rw x.0 at h.3) u.1
        (found_behind at c cs (last + 1) roles (omega (arith, x.0)) u.1 t.1) in
        record {
          rest = more.rest;
          is = ap₂ ◌∷◌ (sym x.2) more.is;
          order = subst (λ (n : ℕ). InOrder F n more.rest) (omega arith) more.order;
          adjacent = (
            ap (λ (r : Record). r.start) x.1,
            subst (λ (q : ℕ × List ℕ). Adjacent F s (at + header + length q.1) roles) (sym x.2) more.adjacent,
          );
          ends = rw (x.2, x.1) (omega (arith, joined_long c (map (record_in F s) roles), more.ends));
        })
    | inr y ↦ (let z : ⊥ =
        omega (arith, later cs (end (new at c)) (rank (role_of F c.0)) (last + 1) ks u.0 h.3 y, h.0) in
        absurd z)
  ]

-- ---- sheets without causes 1 and 2 that have the first roles
module _ (F : Format) (s : List ℕ) (bytes : Bytes s) (roles : List (List ℕ)) (first : Successive F 0 roles)
    (clear : first_cause (sheet_causes F roles s) ≡ Clear) where
  stop : (parsed F s).stop ≡ Clear
  stop = (causes_clear F roles s clear).1

  all_here : (qs : List (List ℕ)) → first_cause (map (missing F s) qs) ≡ Clear → AllHere F s 0 (contents F s) qs
  unfolding record_of
  all_here [] e = tt
  all_here (ks ∷ qs) e =
      let h = both_clear (missing F s ks) (first_cause (map (missing F s) qs)) (sym (cause_cons _ _) ∙ e) in
      let w = causes_clear F roles s clear in
      let found-is = found_clear F ks s (rw (w.0, w.1) (else_clear Clear)) in
      let found = at_found (find ks (parsed F s).records) (clear_absent 2 (length s) _ h.0)
      ∙ ap (λ (f : Option Record). Some (record_or f)) (sym found-is) in
      let is = whole F s bytes stop in
      let short = subst (λ (t : List ℕ). length t ≤ F.longest) is (sheet_short F roles s clear) in
      let reads = content_joined F (contents F s) (contents_in_order F s bytes stop) short ks in
      ((ap (find ks) (contents_placed F s bytes stop) ∙ found, sym (ap (content F ks) is ∙ reads)), all_here qs h.1)

  -- what the sheet holds begins with the records of these roles
  pub front : Front F s 0 0 roles (contents F s)
  front =
      split F s roles (contents F s) 0 0 (contents_in_order F s bytes stop) first
      (all_here roles (causes_clear F roles s clear).2)

  -- and so do its bytes
  pub front_bytes : s ≡ joined (map (record_in F s) roles) ++ joined front.rest
  front_bytes = rw (← joined_append, ← front.is) (whole F s bytes stop)

  -- which end where the record of the last role does
  pub front_cut : take (last_end F s 0 roles) s ≡ joined (map (record_in F s) roles)
  front_cut =
      ap (take (last_end F s 0 roles)) front_bytes
      ∙ take_at (joined (map (record_in F s) roles)) _ (last_end F s 0 roles) (omega (arith, front.ends))

  -- so they stand at the front of a sheet that is made of their records as they are and one more
  pub kept_front : (more : ℕ × List ℕ)
      → joined (map (record_in F s) roles ++ (more ∷ [])) ≡ take (last_end F s 0 roles) s ++ bytes_of more
  kept_front more =
      joined_append (map (record_in F s) roles) (more ∷ []) ∙ ap₂ ◌++◌ (sym front_cut) (joined_one more)

  -- where the sheet has none of the other roles they are all of it
  others_none : Lacks F s (drop (length roles) (roles_of F)) → (cs : List (ℕ × List ℕ)) → front.rest ≡ cs → cs ≡ []
  others_none lacks [] e = refl
  others_none lacks (c ∷ cs) e =
      let above : InOrder F (0 + length roles) (c ∷ cs) = subst (InOrder F (0 + length roles)) e front.order in
      let r = rank (role_of F c.0) in
      let ks = get_or (roles_of F) (r - 1) [] in
      let there : has ks (contents F s) ≡ true =
      ap (has ks) (front.is ∙ ap (λ (q : List (ℕ × List ℕ)). map (record_in F s) roles ++ q) e)
      ∙ has_behind ks (map (record_in F s) roles) c cs (ranked F c.0 (omega (arith, above.0))) in
      let found : is_none (find ks (parsed F s).records) ≡ false =
      ap (λ (q : List Record). is_none (find ks q)) (sym (contents_placed F s bytes stop))
      ∙ missing_placed ks (contents F s) 0 ∙ ap not there in
      let low : r - 1 < length (roles_of F) = omega (arith, above.0, rank_four (role_of F c.0)) in
      let missed = lacking F s (roles_of F) (length roles) (r - 1) lacks (omega (arith, above.0)) low in
      absurd (true≢false (sym missed ∙ found))

  pub front_whole : Lacks F s (drop (length roles) (roles_of F)) → s ≡ joined (map (record_in F s) roles)
  front_whole lacks =
      front_bytes
      ∙ rw (others_none lacks front.rest refl, joined_none) (append-nil (joined (map (record_in F s) roles)))

-- a sheet of the format that the services take is the records of all four, where it has them
pub standard_whole : (s : List ℕ) → Bytes s → first_cause (sheet_causes standard (roles_of standard) s) ≡ Clear
    → s ≡ joined (map (record_in standard s) (roles_of standard))
standard_whole s bytes clear = front_whole standard s bytes (roles_of standard) standard_roles clear tt
