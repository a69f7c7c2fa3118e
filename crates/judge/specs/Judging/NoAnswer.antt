-- The byte for no answer in judging. Where none of judging's causes but 11 is present, no specified answer is that byte.
-- What follows of the results, pass, wrong and unheard, is in proofs/JudgingNoAnswer.antt.
use Rattle.std.specs.Prelude.{ℕ, ◌<◌, ◌≡◌, true, List, length, get_or}
use Rattle.sheet.specs.Check.{first_cause, Clear}
use Rattle.sheet.specs.Reader.{word_in, sequence_in, answers_in}
use Rattle.machine.specs.Machine.{no_answer, answers, AlwaysAnswers}
use Rattle.machine.specs.Machine.Laws.{answers_always}
use Rattle.machine.specs.Causes.{machine_in}
use Rattle.machine.specs.Causes.Lists.{load_answers}
use Rattle.certify.specs.Recognition.{Certified}
use Rattle.certify.specs.Certification.{sequence_needs}
use Rattle.certify.specs.Certification.Laws.{load_clear}
use Rattle.judge.specs.Judging.{judge_causes}
use Rattle.judge.specs.Judging.Verdict.{Right}
use Rattle.judge.specs.Judging.Laws.{marking_clear, judged_proper, judged_commands}

-- ---- the specified answers
module _ (room : ℕ) (s : List ℕ) (e : first_cause (judge_causes room s) ≡ Clear) where
  -- every entry of the machine specifies an answer
  pub judged_answers : AlwaysAnswers (machine_in s)
  judged_answers = load_answers (sequence_needs true) s (load_clear true room s (marking_clear room s e))

  -- so no specified answer is the byte for none
  pub specified_always : (i : ℕ) → i < length (sequence_in s)
      → get_or (answers (machine_in s) (machine_in s).start (sequence_in s)) i 0 ≡ no_answer → ⊥
  specified_always =
      let proper = judged_proper room s e in
      answers_always (machine_in s) proper judged_answers (machine_in s).start (sequence_in s) proper.starts
      (judged_commands room s e).low

-- ---- unheard
-- what it shows: the answers before the place are right, and the byte stands there
pub record FirstUnheard (room : ℕ) (s : List ℕ) (place : ℕ) : Type 0 where
  pub clear : first_cause (judge_causes room s) ≡ Clear
  pub certified : Certified (machine_in s) (word_in s) (sequence_in s)
  pub given : place < length (answers_in s)
  pub before : Right (machine_in s) (sequence_in s) (answers_in s) place
  pub here : get_or (answers_in s) place 0 ≡ no_answer
