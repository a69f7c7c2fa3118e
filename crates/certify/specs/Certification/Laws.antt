-- The laws of certifying: verified entries by any marks, its answer and buffer by the first cause, and the causes.
-- Certified and open by the computed cause, in both directions, are in the certify crate's
-- proofs/CertificationLaws.antt.
use Rattle.std.specs.Prelude.{ℕ, ◌+◌, ◌≤◌, ◌<◌, ◌≡◌, refl, Bool, true, false, List, [], ◌∷◌, length, get_or}
use Rattle.std.proofs.Math.Path.{sym, ap}
use Rattle.std.proofs.Common.{ap₂, ◌∙◌}
use Rattle.std.proofs.Math.Bool.{not}
use borrow.Author.Tests.{eq-eqb, eqb-true}
use Rattle.facts.specs.Tests.{both_true}
use Rattle.sheet.specs.Check.{refusal◌with◌if◌, ◌else◌, first_cause, first, Check, Clear, Refused}
use Rattle.sheet.specs.Promise.{cause9}
use Rattle.certify.specs.Answer.{Certified as CertifiedAnswer, Open}
use Rattle.sheet.specs.Check.Laws.{cause_one, cause_append, both_clear, else_clear}
use Rattle.sheet.specs.Reader.{word_in, sequence_in}
use Rattle.sheet.specs.Writing.{written}
use Rattle.sheet.specs.Promise.Laws.{clear_room}
use Rattle.machine.specs.Limits.{most_sequence}
use Rattle.machine.specs.declared.loading.Loaded.{Loaded}
use Rattle.machine.specs.Machine.{Mealy, state_at, meaning, Proper, Commands}
use Rattle.machine.specs.Causes.{machine_in, load_causes}
use Rattle.machine.specs.Causes.Lists.{load_proper, sequence_commands, load_without_answers}
use Rattle.machine.specs.Loading.{LoadedBy}
use Rattle.certify.specs.Marks.{marked, count, marks}
use Rattle.certify.specs.Marks.Laws.{any_found, any_holds, marked_true, true_marked}
use Rattle.certify.specs.Certification.{sequence_needs, mark_bytes, marking_causes, certify_causes}
use Rattle.certify.specs.Certification.{verified, entry_cause, open_cause, open_in, answer_of, outcome, certification}
use Rattle.certify.specs.Certification.{kept, marks_after, Certifiable}

-- ---- verified entries, by any marks
-- an entry verified by marks, with its place
pub record VerifiedBy (M : Mealy) (xs ms : List ℕ) (s c : ℕ) : Type 0 where
  pub place : ℕ
  pub inside : place < length xs
  pub state : state_at M xs place ≡ s
  pub command : get_or xs place 0 ≡ c
  pub before : get_or ms place 0 ≡ 1
  pub after : get_or ms (place + 1) 0 ≡ 1

pub verified_by : (M : Mealy) (xs ms : List ℕ) (s c : ℕ) → verified M xs ms s c ≡ true → VerifiedBy M xs ms s c
unfolding verified
verified_by M xs ms s c e =
    let f = any_found _ _ e in
    let a = both_true _ _ f.2 in
    let b = both_true _ _ a.1 in
    let d = both_true _ _ b.1 in
    record {
      place = f.0;
      inside = f.1;
      state = eqb-true _ _ a.0;
      command = eqb-true _ _ b.0;
      before = marked_true ms _ d.0;
      after = marked_true ms _ d.1;
    }

pub by_verified : (M : Mealy) (xs ms : List ℕ) (s c : ℕ) → VerifiedBy M xs ms s c → verified M xs ms s c ≡ true
unfolding verified
by_verified M xs ms s c v =
    any_holds _ _ v.place v.inside
    (rw (eq-eqb _ _ v.state, eq-eqb _ _ v.command, true_marked ms _ v.before, true_marked ms _ v.after))

-- ---- the open number as a cause: place 0, then the entries row by row
pub open_in_is : (M : Mealy) (w xs : List ℕ) → open_in M w xs
    ≡ ((refusal 11 with 0 if not (marked (marks M w xs) 0))
    else first M.n (λ s. first M.k (entry_cause M xs (marks M w xs) s)))
unfolding open_in open_cause
open_in_is M w xs = refl

-- ---- the outcome
-- the outcome, once the marks are known
pub outcome_of : (M : Mealy) (w xs : List ℕ) {ms : List ℕ} → marks M w xs ≡ ms
    → outcome M w xs ≡ answer_of (open_cause M xs ms) (count ms)
unfolding outcome open_in
outcome_of M w xs e = ap (λ (ms : List ℕ). answer_of (open_cause M xs ms) (count ms)) e

pub outcome_clear : (M : Mealy) (w xs : List ℕ) → open_in M w xs ≡ Clear
    → outcome M w xs ≡ CertifiedAnswer (count (marks M w xs))
unfolding outcome
outcome_clear M w xs e = rw e

pub outcome_open : (M : Mealy) (w xs : List ℕ) {a v : ℕ} → open_in M w xs ≡ Refused a v
    → outcome M w xs ≡ Open (count (marks M w xs)) v
unfolding outcome
outcome_open M w xs e = rw e

-- ---- the service's answer and buffer, by the first cause
pub certification_refused : (room : ℕ) (s : List ℕ) {n p : ℕ} → first_cause (certify_causes room s) ≡ Refused n p
    → certification room s ≡ Refused n p
unfolding certification
certification_refused room s e = rw e

pub certification_clear : (room : ℕ) (s : List ℕ) → first_cause (certify_causes room s) ≡ Clear
    → certification room s ≡ outcome (machine_in s) (word_in s) (sequence_in s)
unfolding certification
certification_clear room s e = rw e

pub after_refused : (s buffer : List ℕ) {n p : ℕ} → first_cause (certify_causes (length buffer) s) ≡ Refused n p
    → marks_after s buffer ≡ buffer
unfolding marks_after
after_refused s buffer e = rw e

pub after_clear : (s buffer : List ℕ) → first_cause (certify_causes (length buffer) s) ≡ Clear
    → marks_after s buffer ≡ kept (marks (machine_in s) (word_in s) (sequence_in s)) buffer
unfolding marks_after
after_clear s buffer e = rw e

-- ---- the causes of a service that certifies, and what a sheet shows where they are clear
pub marking_causes_are : (answers : Bool) (room : ℕ) (s : List ℕ) → first_cause (marking_causes answers room s)
    ≡ (first_cause (load_causes (sequence_needs answers) s) else cause9 room (mark_bytes (sequence_in s)))
unfolding marking_causes
marking_causes_are answers room s =
    let nine = cause9 room (mark_bytes (sequence_in s)) in
    cause_append (load_causes (sequence_needs answers) s) (nine ∷ [])
    ∙ ap (λ (c : Check). first_cause (load_causes (sequence_needs answers) s) else c) (cause_one nine)

module _ (answers : Bool) (room : ℕ) (s : List ℕ) (e : first_cause (marking_causes answers room s) ≡ Clear) where
  pub load_clear : first_cause (load_causes (sequence_needs answers) s) ≡ Clear
  load_clear = (both_clear _ _ (sym (marking_causes_are answers room s) ∙ e)).0

  pub marked_commands : Commands most_sequence (machine_in s).k (sequence_in s)
  marked_commands = sequence_commands (sequence_needs answers) s refl load_clear

  pub room_enough : mark_bytes (sequence_in s) ≤ room
  room_enough = clear_room _ _ (both_clear _ _ (sym (marking_causes_are answers room s) ∙ e)).1

-- the same of what was loaded: the machine is within its limits, the sequence of its commands, and the marks fit
module _ (room : ℕ) (s : List ℕ) {l : Loaded} (h : Certifiable s room l) where
  pub certifiable_proper : Proper (meaning l.machine)
  certifiable_proper = rw h.machine (load_proper (sequence_needs false) s (load_clear false room s h.clear))

  pub certifiable_commands : Commands most_sequence (meaning l.machine).k (sequence_in s)
  certifiable_commands = rw h.machine (marked_commands false room s h.clear)

  pub certifiable_fits : mark_bytes (sequence_in s) ≤ room
  certifiable_fits = room_enough false room s h.clear

-- and what is loaded with nothing refused is so
pub loaded_certifiable : (answers : Bool) (room : ℕ) (s : List ℕ) {l : Loaded}
    → LoadedBy (marking_causes answers room s) s l → l.check ≡ Clear → first_cause (certify_causes room s) ≡ Clear
    → Certifiable s room l
loaded_certifiable answers room s h e clear = record { clear = clear; machine = h.machine e; records = h.records }

-- certifying refuses no sheet that a service which needs the answers takes
pub certify_without_answers : (room : ℕ) (s : List ℕ) → first_cause (marking_causes true room s) ≡ Clear
    → first_cause (certify_causes room s) ≡ Clear
certify_without_answers room s e =
    let h = both_clear _ _ (sym (marking_causes_are true room s) ∙ e) in
    marking_causes_are false room s ∙ ap₂ ◌else◌ (load_without_answers true true s h.0) h.1 ∙ else_clear Clear

-- how marks are kept
pub kept_is : (ms buffer : List ℕ) → written ms buffer ≡ kept ms buffer
unfolding kept
kept_is ms buffer = refl
