-- From the checks and certifying's answer to judging's.
-- Assumes nothing.
use Prim.Native.Nat.{ℕ, ◌≤◌}
use mathlib.Core.Path.{◌≡◌, refl, sym, ap₂, ◌∙◌}
use mathlib.Core.Bool.{true}
use mathlib.Core.List.{List}
use lib.Dec.{ltb}
use lib.ListN.{length}
use Rattle.sheet.specs.Check.{refusal◌with◌if◌, ◌else◌, first_cause, refused_or, Check, Clear, Refused}
use Rattle.certify.specs.Answer.{Answer as Certification, Certified, Open}
use Rattle.judge.specs.Answer.{Answer}
use Rattle.sheet.specs.declared.record.Record.{Record}
use Rattle.sheet.specs.Values.Laws.{returns_specified}
use Rattle.sheet.specs.Reader.{sequence_in, answers_in, answers_record}
use Rattle.machine.specs.Machine.{Mealy}
use Rattle.machine.specs.Causes.{cause10, machine_in}
use Rattle.machine.specs.Causes.Laws.{cause10_is}
use Rattle.certify.specs.Certification.{marking_causes, Certifies}
use Rattle.judge.specs.Judging.{judge_causes, cause11, verdict, Judges, Identity, values_of}
use Rattle.judge.specs.Judging.Laws.{judge_causes_are, few_answers, judgement_refused, judgement_by}
use Rattle.judge.specs.Judging.Laws.{judged_refused, judged_clear}
use Rattle.judge.proofs.JudgingLaws.{pass_identity}

-- ---- the checks
module _ (room : ℕ) (s : List ℕ) {r : Record} {xs ys : List ℕ} (re : r ≡ answers_record s) (xe : xs ≡ sequence_in s)
    (ye : ys ≡ answers_in s) where
  pub checks_are : {earlier ten c : Check} → earlier ≡ first_cause (marking_causes true room s)
      → ten ≡ (refusal 10 with r.start if ltb (length xs) (length ys)) → c ≡ (earlier else ten)
      → c ≡ first_cause (judge_causes room s)
  checks_are ee te ce =
      let ten-is : (refusal 10 with r.start if ltb (length xs) (length ys))
      ≡ cause10 (answers_record s).start (sequence_in s) (answers_in s) =
      rw (re, xe, ye) (cause10_is (answers_record s).start (sequence_in s) (answers_in s)) in
      ce ∙ ap₂ ◌else◌ ee (te ∙ ten-is) ∙ sym (judge_causes_are room s)

  pub few_here : {c : Check} → c ≡ first_cause (judge_causes room s) → c ≡ Clear → length ys ≤ length xs
  few_here ce e = rw (xe, ye) (few_answers room s (sym ce ∙ e))

-- ---- the promise
-- the identity claim comes with the answer
pub promised : {s before after : List ℕ} {a : Answer} → Judges s before after a → Judges s before after a × Identity s a
promised {s} {before} h = (h, pass_identity (length before) s h.answer.is)

module _ (s before : List ℕ) {c : Check} (ce : c ≡ first_cause (judge_causes (length before) s)) where
  pub judges_refused : {n p : ℕ} → c ≡ Refused n p → Judges s before before (Refused n p)
  judges_refused e = record {
    answer = returns_specified values_of (sym (judgement_refused (length before) s (sym ce ∙ e)));
    marks = sym (judged_refused s before (sym ce ∙ e));
  }

  module _ (e : c ≡ Clear) where
    clear : first_cause (judge_causes (length before) s) ≡ Clear
    clear = sym ce ∙ e

    -- by certifying's answer and the marks that it leaves
    module _ {after : List ℕ} {b : Certification} (h : Certifies s before after b) where
      judges_by : {a : Answer}
          → a ≡ refused_or Refused (cause11 b) (verdict (machine_in s) (sequence_in s) (answers_in s))
          → Judges s before after a
      judges_by ae = record {
        answer = returns_specified values_of (ae ∙ sym (judgement_by (length before) s clear (sym h.answer.is)));
        marks = h.marks ∙ sym (judged_clear s before clear);
      }

      pub judges_certified : {n : ℕ} {M : Mealy} {xs ys : List ℕ} {a : Answer} → b ≡ Certified n → M ≡ machine_in s
          → xs ≡ sequence_in s → ys ≡ answers_in s → a ≡ verdict M xs ys → Judges s before after a
      unfolding cause11
      judges_certified q me xe ye ae = judges_by (ae ∙ (rw (q, me, xe, ye) refl))

      pub judges_open : {n v : ℕ} → b ≡ Open n v → Judges s before after (Refused 11 v)
      unfolding cause11
      judges_open q = judges_by (rw q refl)
