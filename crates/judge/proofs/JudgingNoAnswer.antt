-- The byte for no answer in the results of judging. No specified answer is that byte (specs/Judging/NoAnswer.antt), so
-- answers with it among them never pass, wrong carries it neither as the specified answer nor as the given one, and
-- unheard is the result exactly where it is the first of the answers that is not the specified one.
use Rattle.std.specs.Prelude.{ℕ, ◌<◌, ◌≡◌, List, length, get_or}
use Rattle.std.proofs.Common.{sym, ap, ◌∙◌, arith}
use Rattle.sheet.specs.Reader.{answers_in}
use Rattle.machine.specs.Machine.{no_answer}
use Rattle.judge.specs.Answer.{Pass, Wrong, Unheard}
use Rattle.judge.specs.Judging.{judgement}
use Rattle.judge.specs.Judging.Verdict.{wrong, unheard}
use Rattle.judge.specs.Judging.Laws.{few_answers, judged}
use Rattle.judge.specs.Judging.NoAnswer.{specified_always, FirstUnheard}
use Rattle.judge.proofs.JudgingLaws.{pass_passes, judgement_result, result_judgement}

-- ---- pass: the byte is not among the answers
pub pass_heard : (room : ℕ) (s : List ℕ) {size end : ℕ} → judgement room s ≡ Pass size end → (i : ℕ)
    → i < length (answers_in s) → get_or (answers_in s) i 0 ≡ no_answer → ⊥
pass_heard room s p i l q =
    let h = pass_passes room s p in
    specified_always room s h.clear i (omega (arith, few_answers room s h.clear))
    (ap (λ (ys : List ℕ). get_or ys i 0) (sym h.complete) ∙ q)

-- ---- wrong: it is neither of the two answers
module _ (room : ℕ) (s : List ℕ) {place specified given : ℕ} where
  pub wrong_heard : judgement room s ≡ Wrong place specified given
      → (specified ≡ no_answer → ⊥) × (given ≡ no_answer → ⊥)
  wrong_heard e = elim (rw e at (judgement_result room s)) [
    | judged f c (wrong l r d n x y) ↦
        (λ m. specified_always room s f place (omega (arith, few_answers room s f)) (sym x ∙ m), n)
  ]

-- ---- unheard
module _ (room : ℕ) (s : List ℕ) (place : ℕ) where
  pub unheard_first : judgement room s ≡ Unheard place → FirstUnheard room s place
  unheard_first e = elim (rw e at (judgement_result room s)) [
    | judged f c (unheard l r n y) ↦ record { clear = f; certified = c; given = l; before = r; here = y }
  ]

  pub first_unheard : FirstUnheard room s place → judgement room s ≡ Unheard place
  first_unheard h =
      sym (result_judgement room s (judged h.clear h.certified
      (unheard h.given h.before
      (specified_always room s h.clear place (omega (arith, h.given, few_answers room s h.clear))) h.here)))
