-- From the program's marks and known entries to the outcome, and from there to the service's answer.
-- Assumes nothing.
use Prim.Native.Nat.{ℕ, ◌+◌, ◌*◌, ◌≤◌, ◌<◌}
use mathlib.Core.Path.{◌≡◌, sym, ap, ap₂, ◌∙◌}
use mathlib.Core.Bool.{true}
use mathlib.Core.List.{List, ◌++◌}
use native.Mathlib.Omega.{arith}
use lib.ListN.{length, get_or, drop}
use Rattle.facts.specs.Numbers.{digits_one}
use Rattle.sheet.specs.Check.{first_cause, Check, Clear, Refused}
use Rattle.certify.specs.Answer.{Answer}
use Rattle.sheet.specs.Reader.{word_in, sequence_in}
use Rattle.machine.specs.Limits.{most_sequence, most_entries}
use Rattle.machine.specs.declared.machine.Machine.{Machine}
use Rattle.machine.specs.Machine.{Mealy, meaning, Proper, Commands}
use Rattle.machine.specs.Machine.Laws.{meaning_states, meaning_commands, proper_entries}
use Rattle.machine.specs.Causes.{machine_in}
use Rattle.certify.specs.Recognition.{OccursAt}
use Rattle.certify.specs.Recognition.Laws.{closure_more}
use Rattle.certify.specs.Marks.{marks_by, count, occurs_at, marks}
use Rattle.certify.specs.Marks.Laws.{marks_by_length, marks_by_bits, marks_by_one, marks_by_true}
use Rattle.certify.specs.Marks.Agreement.{occurs_true, true_occurs}
use Rattle.certify.proofs.MarksAgreement.{marks_unique, marks_length}
use Rattle.certify.specs.Certification.{certify_causes, verified, open_cause, answer_of, outcome, Certifies}
use Rattle.certify.specs.Certification.Laws.{verified_by, by_verified, outcome_of, certification_refused}
use Rattle.certify.specs.Certification.Laws.{certification_clear, after_refused, after_clear, kept_is}
use Rattle.certify.proofs.CertificationContract.{certifies}
use Rattle.certify.specs.Certification.Program.{open_by, open_known}
use Rattle.certify.specs.Folding.{MarkedIn}
use Rattle.certify.specs.Sweep.{place_entry, CloseRequires, Closed}

-- the entries of the program's table
pub entries_tabled : (m : Machine) → m.n * m.k ≡ (meaning m).n * (meaning m).k
entries_tabled m = sym (ap₂ ◌*◌ (meaning_states m) (meaning_commands m))

pub few_tabled : (m : Machine) → Proper (meaning m) → m.n * m.k ≤ most_entries
few_tabled m h = omega (arith, entries_tabled m, proper_entries (meaning m) h)

-- ---- rule 1's places as marks
module _ (w xs : List ℕ) {given : List ℕ} (e : given ≡ marks_by xs (occurs_at w xs)) where
  marked_occurs : (p : ℕ) → MarkedIn given p → OccursAt w xs p
  marked_occurs p m = occurs_true w xs p (marks_by_true xs (occurs_at w xs) p (rw (← e) m))

  occurs_marked : (p : ℕ) → OccursAt w xs p → MarkedIn given p
  occurs_marked p h = rw e (marks_by_one xs (occurs_at w xs) p (omega (arith, h.inside)) (true_occurs w xs p h))

  pub word_close_required : (M : Mealy) → Proper M → Commands most_sequence M.k xs → CloseRequires M xs given
  word_close_required M p c = record {
    proper = p;
    commands = c;
    long = ap length e ∙ marks_by_length xs (occurs_at w xs);
    bits = rw e (marks_by_bits xs (occurs_at w xs));
  }

-- ---- the outcome
module _ (M : Mealy) (w xs : List ℕ) {given ms known : List ℕ} (proper : Proper M)
    (low : Commands most_sequence M.k xs) (e : given ≡ marks_by xs (occurs_at w xs))
    (h : Closed M xs given ms known) where
  pub marks_are : ms ≡ marks M w xs
  marks_are = marks_unique M w xs ms (record {
    long = h.exact.long;
    bits = h.exact.bits;
    sound = λ p m. closure_more (marked_occurs w xs e) (h.exact.sound p m);
    complete = λ p l c. h.exact.complete p l (closure_more (occurs_marked w xs e) c);
  })

  known_verified : (s c : ℕ) → s < M.n → c < M.k → (get_or known (s * M.k + c) 0 ≡ 0 → ⊥) → verified M xs ms s c ≡ true
  known_verified s c sl cl n =
      let v = h.knows (s * M.k + c) n in
      let one = digits_one M.k _ _ s c (low.low v.place v.inside) cl v.entry in
      by_verified M xs ms s c (record {
        place = v.place;
        inside = v.inside;
        state = one.0;
        command = one.1;
        before = h.exact.complete v.place (omega (arith, v.inside)) v.before;
        after = h.exact.complete (v.place + 1) (omega (arith, v.inside)) v.after;
      })

  verified_known : (s c : ℕ) → s < M.n → c < M.k → verified M xs ms s c ≡ true → get_or known (s * M.k + c) 0 ≡ 0 → ⊥
  verified_known s c sl cl t z =
      let v = verified_by M xs ms s c t in
      let one : place_entry M xs v.place ≡ s * M.k + c = ap₂ (λ (x y : ℕ). x * M.k + y) v.state v.command in
      h.all v.place v.inside v.before v.after (rw one z)

  pub outcome_is : {entries n : ℕ} {c : Check} {a : Answer} → entries ≡ M.n * M.k → c ≡ open_by ms known entries
      → n ≡ count ms → a ≡ answer_of c n → a ≡ outcome M w xs
  outcome_is ee ce ne ae =
      let o : open_by ms known _ ≡ open_cause M xs ms =
      ap (open_by ms known) ee ∙ open_known M xs ms known known_verified verified_known in
      ae ∙ ap₂ answer_of (ce ∙ o) ne ∙ sym (outcome_of M w xs (sym marks_are))

-- ---- the promise
pub certifies_refused : (s before : List ℕ) {c : Check} {n p : ℕ} → c ≡ first_cause (certify_causes (length before) s)
    → c ≡ Refused n p → Certifies s before before (Refused n p)
certifies_refused s before ce e =
    certifies s before (sym (certification_refused (length before) s (sym ce ∙ e)))
    (sym (after_refused s before (sym ce ∙ e)))

pub certifies_clear : (s before : List ℕ) {M : Mealy} {w xs after ms : List ℕ} {a : Answer}
    → first_cause (certify_causes (length before) s) ≡ Clear → M ≡ machine_in s → w ≡ word_in s
    → xs ≡ sequence_in s → a ≡ outcome M w xs → ms ≡ marks M w xs → after ≡ ms ++ drop (length xs + 1) before
    → Certifies s before after a
certifies_clear s before {M} {w} {xs} clear me we xe ae mse afe =
    certifies s before (ae ∙ (rw (me, we, xe) (sym (certification_clear (length before) s clear))))
    (afe
    ∙ ap₂ (λ (l : List ℕ) (n : ℕ). l ++ drop n before) mse (sym (marks_length M w xs))
    ∙ kept_is (marks M w xs) before
    ∙ (rw (me, we, xe) (sym (after_clear s before clear))))
