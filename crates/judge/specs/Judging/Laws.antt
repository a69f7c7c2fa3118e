-- The laws of judging a sheet: its causes, its answer and buffer by the first cause, and the statements of what each
-- answer says. That each answer says it, both directions, and the identity claim are in proofs/JudgingLaws.antt.
use Rattle.std.specs.Prelude.{ℕ, ◌≤◌, ◌≡◌, refl, true, List, length, drop}
use Rattle.std.proofs.Common.{sym, ◌∙◌}
use Rattle.sheet.specs.Check.{◌else◌, first_cause, refused_or, Clear, Refused}
use Rattle.certify.specs.Answer.{Answer as Certification, Certified as CertifiedAnswer, Open}
use Rattle.judge.specs.Answer.{Answer}
use Rattle.sheet.specs.Check.Laws.{both_clear, cause_one, cause_append}
use Rattle.sheet.specs.Reader.{word_in, sequence_in, answers_in, answers_record}
use Rattle.machine.specs.Limits.{most_sequence}
use Rattle.machine.specs.Machine.{answers, state_at, Separates, Proper, Commands}
use Rattle.machine.specs.Causes.{cause10, machine_in, load_causes}
use Rattle.machine.specs.Causes.Laws.{clear_few}
use Rattle.machine.specs.Causes.Lists.{load_proper, word_distinguishes}
use Rattle.certify.specs.Recognition.{Certified, OpenNumber, MarksOf}
use Rattle.certify.specs.Certification.{sequence_needs, mark_bytes, marking_causes, certify_causes, certification}
use Rattle.certify.specs.Certification.{marks_after, kept_in}
use Rattle.certify.specs.Certification.Laws.{load_clear, marked_commands, certify_without_answers}
use Rattle.certify.proofs.CertificationContract.{certifies}
use Rattle.judge.specs.Judging.{judge_causes, cause11, verdict, judgement, judged_marks}
use Rattle.judge.specs.Judging.Verdict.{Judged}

-- ---- the causes
pub judge_causes_are : (room : ℕ) (s : List ℕ) → first_cause (judge_causes room s)
    ≡ (first_cause (marking_causes true room s) else cause10 (answers_record s).start (sequence_in s) (answers_in s))
unfolding judge_causes
judge_causes_are room s = rw (cause_append, cause_one)

module _ (room : ℕ) (s : List ℕ) (e : first_cause (judge_causes room s) ≡ Clear) where
  both_parts : (first_cause (marking_causes true room s) ≡ Clear)
      × (cause10 (answers_record s).start (sequence_in s) (answers_in s) ≡ Clear)
  both_parts = both_clear _ _ (sym (judge_causes_are room s) ∙ e)

  pub marking_clear : first_cause (marking_causes true room s) ≡ Clear
  marking_clear = both_parts.0

  -- certifying refuses nothing that judging takes
  pub certifying_clear : first_cause (certify_causes room s) ≡ Clear
  certifying_clear = certify_without_answers room s marking_clear

  pub few_answers : length (answers_in s) ≤ length (sequence_in s)
  few_answers = clear_few (answers_record s).start (sequence_in s) (answers_in s) both_parts.1

-- ---- the answer and the buffer, by the first cause
module _ (room : ℕ) (s : List ℕ) where
  pub judgement_refused : {n p : ℕ} → first_cause (judge_causes room s) ≡ Refused n p
      → judgement room s ≡ Refused n p
  unfolding judgement
  judgement_refused e = rw e

  -- otherwise by what certifying answers
  pub judgement_by : first_cause (judge_causes room s) ≡ Clear → {b : Certification} → certification room s ≡ b
      → judgement room s ≡ refused_or Refused (cause11 b) (verdict (machine_in s) (sequence_in s) (answers_in s))
  unfolding judgement
  judgement_by e f = rw (e, f)

  pub judgement_open : first_cause (judge_causes room s) ≡ Clear → {n v : ℕ} → certification room s ≡ Open n v
      → judgement room s ≡ Refused 11 v
  unfolding cause11
  judgement_open e f = judgement_by e f

  pub judgement_verdict : first_cause (judge_causes room s) ≡ Clear → {n : ℕ} → certification room s ≡ CertifiedAnswer n
      → judgement room s ≡ verdict (machine_in s) (sequence_in s) (answers_in s)
  unfolding cause11
  judgement_verdict e f = judgement_by e f

pub judged_refused : (s buffer : List ℕ) {n p : ℕ} → first_cause (judge_causes (length buffer) s) ≡ Refused n p
    → judged_marks s buffer ≡ buffer
unfolding judged_marks
judged_refused s buffer e = rw e

pub judged_clear : (s buffer : List ℕ) → first_cause (judge_causes (length buffer) s) ≡ Clear
    → judged_marks s buffer ≡ marks_after s buffer
unfolding judged_marks
judged_clear s buffer e = rw e

-- so marks 0 to N are those of the recognised places, and later bytes stay as they were
pub judged_marked : (s buffer : List ℕ) → first_cause (judge_causes (length buffer) s) ≡ Clear
    → MarksOf (machine_in s) (word_in s) (sequence_in s) (kept_in (sequence_in s) (judged_marks s buffer))
judged_marked s buffer e =
    rw (judged_clear s buffer e) ((certifies s buffer refl refl).marked (certifying_clear (length buffer) s e))

pub judged_later : (s buffer : List ℕ) → first_cause (judge_causes (length buffer) s) ≡ Clear
    → drop (mark_bytes (sequence_in s)) (judged_marks s buffer) ≡ drop (mark_bytes (sequence_in s)) buffer
judged_later s buffer e = rw (judged_clear s buffer e) (certifies s buffer refl refl).later

-- ---- what each answer says
-- every result, where nothing is refused and the sequence is certified; a refusal with the number and place of the
-- first cause, or, where no other cause is present and the sequence is open, with 11 and the open number
pub data Result (room : ℕ) (s : List ℕ) : Answer → Type 0 where
  refused : {n p : ℕ} → first_cause (judge_causes room s) ≡ Refused n p → Result room s (Refused n p)
  not_certified : {v : ℕ} → first_cause (judge_causes room s) ≡ Clear
      → OpenNumber (machine_in s) (word_in s) (sequence_in s) v → Result room s (Refused 11 v)
  judged : {a : Answer} → first_cause (judge_causes room s) ≡ Clear → Certified (machine_in s) (word_in s) (sequence_in s)
      → Judged (machine_in s) (sequence_in s) (answers_in s) a → Result room s a

-- what pass shows
pub record Passes (room : ℕ) (s : List ℕ) (size end : ℕ) : Type 0 where
  pub clear : first_cause (judge_causes room s) ≡ Clear
  pub certified : Certified (machine_in s) (word_in s) (sequence_in s)
  pub complete : answers_in s ≡ answers (machine_in s) (machine_in s).start (sequence_in s)
  pub long : size ≡ length (sequence_in s)
  pub ends : end ≡ state_at (machine_in s) (sequence_in s) (length (sequence_in s))

-- ---- what machine, word and sequence have
module _ (room : ℕ) (s : List ℕ) (e : first_cause (judge_causes room s) ≡ Clear) where
  loaded : first_cause (load_causes (sequence_needs true) s) ≡ Clear
  loaded = load_clear true room s (marking_clear room s e)

  pub judged_proper : Proper (machine_in s)
  judged_proper = load_proper (sequence_needs true) s loaded

  pub judged_commands : Commands most_sequence (machine_in s).k (sequence_in s)
  judged_commands = marked_commands true room s (marking_clear room s e)

  pub word_separates : Separates (machine_in s) (word_in s)
  word_separates = (word_distinguishes (sequence_needs true) s refl loaded).separates
