-- The laws of certifying by the sequence's own marks: certified and open by the computed cause, in both directions.
use Rattle.std.specs.Prelude.{ℕ, ◌+◌, ◌*◌, ◌<◌, ◌≡◌, refl, Bool, true, false, List}
use Rattle.std.proofs.Math.Path.{sym, ap}
use Rattle.std.proofs.Common.{◌∙◌, true≢false}
use Rattle.std.proofs.Math.Bool.{not}
use Rattle.std.proofs.Math.Logic.{inl, inr}
use borrow.Author.Tests.{ne_eqb, eqb-false, not-true, not-false}
use Rattle.facts.specs.Tests.{true_or_false}
use Rattle.sheet.specs.Check.{◌else◌, first, Check, Clear, Refused}
use Rattle.sheet.specs.Check.Laws.{same_refusal, absent, present, clear_absent, both_clear, else_clear}
use Rattle.sheet.specs.Check.Laws.{else_refused, first_clear, first_clear_at, first_found, Present, first_present}
use Rattle.sheet.specs.Check.Laws.{present_test}
use Rattle.machine.specs.Machine.{Mealy}
use Rattle.certify.specs.Recognition.{Recognised, Verified, Certified, OpenNumber, start_open, entry_open}
use Rattle.certify.specs.Marks.{marked, marks}
use Rattle.certify.specs.Marks.Laws.{marked_true, true_marked}
use Rattle.certify.specs.Certification.{verified, entry_cause, open_in}
use Rattle.certify.specs.Certification.Laws.{verified_by, by_verified, open_in_is}
use Rattle.certify.proofs.MarksAgreement.{marked_recognised, recognised_marked}

module _ (M : Mealy) (w xs : List ℕ) where
  -- ---- verified, both directions
  pub verified_true : (s c : ℕ) → verified M xs (marks M w xs) s c ≡ true → Verified M w xs s c
  verified_true s c e =
      let v = verified_by M xs (marks M w xs) s c e in
      record {
        place = v.place;
        inside = v.inside;
        state = v.state;
        command = v.command;
        before = marked_recognised M w xs v.place v.before;
        after = marked_recognised M w xs (v.place + 1) v.after;
      }

  pub true_verified : (s c : ℕ) → Verified M w xs s c → verified M xs (marks M w xs) s c ≡ true
  true_verified s c v = by_verified M xs (marks M w xs) s c (record {
    place = v.place;
    inside = v.inside;
    state = v.state;
    command = v.command;
    before = recognised_marked M w xs v.place v.before;
    after = recognised_marked M w xs (v.place + 1) v.after;
  })

  -- ---- certified exactly where place 0 is recognised and every entry is verified
  pub clear_certified : open_in M w xs ≡ Clear → Certified M w xs
  clear_certified e =
      let h = both_clear _ _ (sym (open_in_is M w xs) ∙ e) in
      record {
        start = marked_recognised M w xs 0 (marked_true (marks M w xs) 0 (not-false _ (clear_absent 11 0 _ h.0)));
        entries = λ s c ls lc.
            verified_true s c
            (not-false _ (clear_absent 11 _ _ (first_clear_at M.k c _ (first_clear_at M.n s _ h.1 ls) lc)));
      }

  pub certified_clear : Certified M w xs → open_in M w xs ≡ Clear
  certified_clear h =
      open_in_is M w xs ∙
      rw (absent 11 0 (ap not (true_marked (marks M w xs) 0 (recognised_marked M w xs 0 h.start))))
      (else_clear _
      ∙ first_clear M.n _
      (λ s ls. first_clear M.k _ (λ c lc. absent 11 _ (ap not (true_verified s c (h.entries s c ls lc))))))

-- ---- the open number
module _ (M : Mealy) (w xs : List ℕ) where
  -- an entry's cause, by the sequence's own marks
  abbrev entry : ℕ → ℕ → Check
  entry = entry_cause M xs (marks M w xs)

  clear_verified : (s c : ℕ) → entry s c ≡ Clear → Verified M w xs s c
  clear_verified s c e = verified_true M w xs s c (not-false _ (clear_absent 11 _ _ e))

  in_row : (s : ℕ) → s < M.n → Recognised M w xs 0 → ((t d : ℕ) → t < s → d < M.k → Verified M w xs t d) → {a v : ℕ}
      → Present M.k (entry s) a v → (a ≡ 11) × OpenNumber M w xs v
  in_row s ls r before h =
      let t = present_test 11 _ _ h.here in (
        t.1.0,
        entry_open s h.place ls h.inside r
            (λ v. true≢false (sym (true_verified M w xs s h.place v) ∙ not-true _ t.0)) before
            (λ d l. clear_verified s d (first_clear_at h.place d (entry s) h.before l)) t.1.1,
      )

  in_rows : Recognised M w xs 0 → {a v : ℕ} → Present M.n (λ s. first M.k (entry s)) a v
      → (a ≡ 11) × OpenNumber M w xs v
  in_rows r h =
      in_row h.place h.inside r
      (λ t d lt ld. clear_verified t d
      (first_clear_at M.k d (entry t) (first_clear_at h.place t (λ s. first M.k (entry s)) h.before lt) ld))
      (first_present M.k (entry h.place) h.here)

  rows : Check
  rows = first M.n (λ s. first M.k (entry s))

  pub refused_open : {a v : ℕ} → open_in M w xs ≡ Refused a v → (a ≡ 11) × OpenNumber M w xs v
  unfolding rows
  refused_open {a} {v} e = elim (true_or_false (marked (marks M w xs) 0)) [
    | inl m ↦ (let here : open_in M w xs ≡ rows =
        open_in_is M w xs ∙ ap (λ (c : Check). c else rows) (absent 11 0 (ap not m)) ∙ else_clear rows in
        let on = sym here ∙ e in
        in_rows (marked_recognised M w xs 0 (marked_true (marks M w xs) 0 m)) (first_present M.n _ on))
    | inr m ↦ (let zero : Refused 11 0 ≡ Refused a v =
        sym (open_in_is M w xs
        ∙ ap (λ (c : Check). c else rows) (present 11 0 (ap not m)) ∙ else_refused 11 0 rows) ∙ e in
        let same = same_refusal zero in
        (sym same.0, start_open (λ r. eqb-false _ _ m (recognised_marked M w xs 0 r)) (sym same.1)))
  ]

  -- the other direction: an open number is the one that is refused with
  unmarked : (Recognised M w xs 0 → ⊥) → marked (marks M w xs) 0 ≡ false
  unmarked h = ne_eqb _ _ (λ e. h (marked_recognised M w xs 0 e))

  unverified : (s c : ℕ) (b : Bool) → verified M xs (marks M w xs) s c ≡ b → (Verified M w xs s c → ⊥)
      → verified M xs (marks M w xs) s c ≡ false
  unverified s c true e h = absurd (h (verified_true M w xs s c e))
  unverified s c false e h = e

  verified_clear : (s c : ℕ) → Verified M w xs s c → entry s c ≡ Clear
  verified_clear s c v = absent 11 _ (ap not (true_verified M w xs s c v))

  entry_refused : (s c : ℕ) → (Verified M w xs s c → ⊥) → entry s c ≡ Refused 11 (1 + (s * M.k + c))
  entry_refused s c h = present 11 _ (ap not (unverified s c _ refl h))

  rows_refused : (s c : ℕ) → s < M.n → c < M.k → (Verified M w xs s c → ⊥)
      → ((t d : ℕ) → t < s → d < M.k → Verified M w xs t d) → ((d : ℕ) → d < c → Verified M w xs s d)
      → rows ≡ Refused 11 (1 + (s * M.k + c))
  unfolding rows
  rows_refused s c ls lc h before row =
      first_found M.n s (λ t. first M.k (entry t)) ls
      (first_clear s _ (λ t lt. first_clear M.k (entry t) (λ d ld. verified_clear t d (before t d lt ld))))
      (first_found M.k c (entry s) lc (first_clear c (entry s) (λ d ld. verified_clear s d (row d ld)))
      (entry_refused s c h))

  pub open_refused : {v : ℕ} → OpenNumber M w xs v → open_in M w xs ≡ Refused 11 v
  unfolding rows
  open_refused (start_open h e) =
      open_in_is M w xs
      ∙ ap (λ (c : Check). c else rows) (present 11 0 (ap not (unmarked h)))
      ∙ else_refused 11 0 rows
      ∙ ap (Refused 11) (sym e)
  open_refused (entry_open s c ls lc r h before row e) =
      open_in_is M w xs
      ∙ ap (λ (d : Check). d else rows)
      (absent 11 0 (ap not (true_marked (marks M w xs) 0 (recognised_marked M w xs 0 r))))
      ∙ else_clear rows ∙ rows_refused s c ls lc h before row ∙ ap (Refused 11) (sym e)
