-- The laws of judging a sheet that rest on the verdict and the renaming (specs/Judging/Laws.antt has the others and the
-- definitions): what each answer says, both directions, and the identity claim. An edit of what a result says, of the
-- renaming or of cause 11 is refused below them.
use Rattle.std.specs.Prelude.{Err}
use Rattle.std.specs.Prelude.{ℕ, ◌≡◌, refl, List, length}
use Rattle.std.proofs.Common.{sym, ◌∙◌}
use Rattle.facts.specs.Lists.{Below}
use Rattle.sheet.specs.Check.{first_cause, Check, Clear, Refused}
use Rattle.certify.specs.Answer.{Answer as Certification, Certified as CertifiedAnswer, Open}
use Rattle.judge.specs.Answer.{Answer, Pass}
use Rattle.sheet.specs.Check.Laws.{clear_refused}
use Rattle.sheet.specs.Reader.{word_in, sequence_in, answers_in}
use Rattle.machine.specs.Machine.{answers, Proper}
use Rattle.machine.specs.Causes.{machine_in}
use Rattle.machine.specs.Unit.{Unit, table_of, begun_in, own_answers, present_state}
use Rattle.certify.specs.Recognition.{RecognisedNumber}
use Rattle.certify.specs.Certification.{certification, Says}
use Rattle.certify.proofs.CertificationContract.{certification_says}
use Rattle.judge.specs.Renaming.Identity.{identity}
use Rattle.judge.specs.Renaming.Behaviour.{end_alike}
use Rattle.judge.specs.Judging.{judge_causes, verdict, judgement, judged_marks, Identity}
use Rattle.judge.specs.Judging.Verdict.{passed, judged_verdict}
use Rattle.judge.specs.Judging.Laws.{certifying_clear, few_answers, judgement_refused, judgement_open}
use Rattle.judge.specs.Judging.Laws.{judgement_verdict, judged_refused, Result, refused, not_certified, judged}
use Rattle.judge.specs.Judging.Laws.{Passes}
use Rattle.judge.specs.Judging.Laws.{judged_proper, judged_commands, word_separates}
use Rattle.judge.proofs.JudgingVerdict.{verdict_judged}

-- ---- what each answer says
module _ (room : ℕ) (s : List ℕ) where
  abbrev says : Says room s (certification room s)
  says = certification_says room s

  -- where judging refuses nothing, certifying answers with the number of recognised places
  numbered : first_cause (judge_causes room s) ≡ Clear → (b : Certification) → certification room s ≡ b
      → (n : ℕ) × RecognisedNumber (machine_in s) (word_in s) (sequence_in s) n
  numbered e (CertifiedAnswer n) f = (n, ((says.certified n).0 f).number)
  numbered e (Open n v) f = (n, ((says.opened n v).0 f).number)
  numbered e (Err r) f = clear_refused (certifying_clear room s e) ((says.refused r.number r.place).0 f)

  pub result_judgement : {a : Answer} → Result room s a → a ≡ judgement room s
  result_judgement (refused e) = sym (judgement_refused room s e)
  result_judgement (not_certified {v = v} e o) =
      let r = numbered e (certification room s) refl in
      sym (judgement_open room s e
      ((says.opened r.0 v).1 (record { clear = certifying_clear room s e; open_number = o; number = r.1 })))
  result_judgement (judged e c h) =
      let r = numbered e (certification room s) refl in
      judged_verdict (machine_in s) (sequence_in s) (answers_in s) (few_answers room s e) h
      ∙ sym (judgement_verdict room s e
      ((says.certified r.0).1 (record { clear = certifying_clear room s e; certified = c; number = r.1 })))

  result_by : (c : Check) (b : Certification) → first_cause (judge_causes room s) ≡ c → certification room s ≡ b
      → Result room s (judgement room s)
  result_by (Err r) b e f = rw (judgement_refused room s e) (refused e)
  result_by Clear (CertifiedAnswer n) e f =
      rw (judgement_verdict room s e f)
      (judged e ((says.certified n).0 f).certified
      (verdict_judged (machine_in s) (sequence_in s) (answers_in s) (few_answers room s e)))
  result_by Clear (Open n v) e f = rw (judgement_open room s e f) (not_certified e ((says.opened n v).0 f).open_number)
  result_by Clear (Err r) e f = clear_refused (certifying_clear room s e) ((says.refused r.number r.place).0 f)

  pub judgement_result : Result room s (judgement room s)
  judgement_result = result_by (first_cause (judge_causes room s)) (certification room s) refl refl

-- a refusal other than judging's 11 writes nothing
pub refused_marks : (s buffer : List ℕ) {n p : ℕ} → judgement (length buffer) s ≡ Refused n p → (n ≡ 11 → ⊥)
    → judged_marks s buffer ≡ buffer
refused_marks s buffer e = go (rw e at (judgement_result (length buffer) s))
  where
    go : {n p : ℕ} → Result (length buffer) s (Refused n p) → (n ≡ 11 → ⊥) → judged_marks s buffer ≡ buffer
    go (refused f) other = judged_refused s buffer f
    go (not_certified f o) other = absurd (other refl)
    go (judged _ _ verdict) other = elim verdict [ ]

pub pass_passes : (room : ℕ) (s : List ℕ) {size end : ℕ} → judgement room s ≡ Pass size end → Passes room s size end
pass_passes room s e = elim (rw e at (judgement_result room s)) [
  | judged f c (passed y n t) ↦ record { clear = f; certified = c; complete = y; long = n; ends = t }
]

pub passes_pass : (room : ℕ) (s : List ℕ) {size end : ℕ} → Passes room s size end → judgement room s ≡ Pass size end
passes_pass room s h =
    sym (result_judgement room s (judged h.clear h.certified (passed h.complete h.long h.ends)))

-- ---- the identity claim
pub pass_identity : (room : ℕ) (s : List ℕ) {a : Answer} → a ≡ judgement room s → Identity s a
pass_identity room s ae U size end pass own =
    let h = pass_passes room s (sym ae ∙ pass) in
    rw h.ends
    (identity (machine_in s) (word_in s) (sequence_in s) (judged_proper room s h.clear)
    (judged_commands room s h.clear) (word_separates room s h.clear)
    h.certified U (sym h.complete ∙ own))

-- after a pass, whatever further commands of the sheet go in, the unit answers each as the machine
-- does from the end state on
pub pass_after : (room : ℕ) (s : List ℕ) (U : Unit (machine_in s).n (machine_in s).k) (size end : ℕ)
    → judgement room s ≡ Pass size end → answers_in s ≡ own_answers (machine_in s).n (machine_in s).k U (sequence_in s)
    → (ys : List ℕ) → Below (machine_in s).k ys
    → answers (table_of (machine_in s).n (machine_in s).k U)
    (present_state (machine_in s).n (machine_in s).k U (sequence_in s)) ys
    ≡ answers (machine_in s) end ys
pass_after room s U size end pass own ys below =
    let clear = (pass_passes room s pass).clear in
    end_alike (machine_in s) (judged_proper room s clear) U (sequence_in s) end
    (pass_identity room s (sym pass) U size end refl own)
    (judged_commands room s clear) ys below

-- the claim is not empty: where judging passes, the answers are those of the specified machine itself, begun in its
-- start
pub pass_own : (room : ℕ) (s : List ℕ) {size end : ℕ} → judgement room s ≡ Pass size end → (h : Proper (machine_in s))
    → answers_in s
    ≡ own_answers (machine_in s).n (machine_in s).k (begun_in (machine_in s) h (machine_in s).start h.starts)
    (sequence_in s)
pass_own room s e h = (pass_passes room s e).complete
