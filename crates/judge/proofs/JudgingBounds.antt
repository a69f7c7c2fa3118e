-- The values of judging's answer are small, of a sheet of bytes: places of refusals lie inside the longest sheet,
-- places of answers are at most N, the end state is one of the machine's, and answers are bytes. So the capture rig's
-- number holds each of them in its own bits.
use Rattle.std.specs.Prelude.{ℕ, ◌<◌, ◌≡◌, refl, List, length, get_or}
use Rattle.std.proofs.Common.{arith}
use Rattle.sheet.specs.Check.{first_cause, Clear}
use Rattle.judge.specs.Answer.{Answer, Pass}
use Rattle.sheet.specs.Values.{Fits}
use Rattle.sheet.specs.Reader.{word_in, sequence_in, answers_in}
use Rattle.facts.specs.Bytes.{Bytes}
use Rattle.sheet.specs.Reader.Bounds.{content_bytes}
use Rattle.machine.specs.Limits.{most_sequence}
use Rattle.machine.specs.Machine.{Mealy, Proper, Commands, state_at}
use Rattle.machine.specs.Machine.Laws.{answer_at, state_stays, proper_entries}
use Rattle.machine.specs.Causes.{machine_in}
use Rattle.machine.specs.Causes.Bounds.{answer_byte}
use Rattle.certify.specs.Recognition.Laws.{open_small}
use Rattle.judge.specs.Judging.{judge_causes, judgement, values_of}
use Rattle.judge.specs.Judging.Verdict.{Judged, passed, wrong, unheard, unfinished}
use Rattle.judge.specs.Judging.Laws.{few_answers, judged_proper, judged_commands, Result, refused, not_certified}
use Rattle.judge.specs.Judging.Laws.{judged}
use Rattle.sheet.specs.Format.{standard}
use Rattle.judge.specs.Judging.Bounds.{judge_small}
use Rattle.judge.proofs.JudgingLaws.{judgement_result}

-- ---- the values
module _ (room : ℕ) (s : List ℕ) (bytes : Bytes s) where
  module _ (e : first_cause (judge_causes room s) ≡ Clear) where
    abbrev proper : Proper (machine_in s)
    proper = judged_proper room s e

    abbrev commands : Commands most_sequence (machine_in s).k (sequence_in s)
    commands = judged_commands room s e

    judged_fits : {a : Answer} → Judged (machine_in s) (sequence_in s) (answers_in s) a → Fits (values_of a)
    judged_fits (passed y n t) = record {
      place = omega (arith, commands.few);
      a = omega arith;
      b = omega (
        arith,
        proper.few_states,
        state_stays (machine_in s) proper (sequence_in s) commands.low (length (sequence_in s)),
      );
    }
    judged_fits (wrong {place = p} l r d n x y) =
        let inside : p < length (sequence_in s) = omega (arith, few_answers room s e) in
        record {
          place = omega (arith, commands.few);
          a =
              rw (x, answer_at (machine_in s) (sequence_in s) p inside)
              (answer_byte s bytes (state_at (machine_in s) (sequence_in s) p) (get_or (sequence_in s) p 0));
          b = rw y (content_bytes standard standard.answers s bytes p);
        }
    judged_fits (unheard {place = p} l r n y) = record {
      place = omega (arith, few_answers room s e, commands.few);
      a = omega arith;
      b = omega arith;
    }
    judged_fits (unfinished y l r) = record { place = omega (arith, commands.few); a = omega arith; b = omega arith }

  result_fits : {a : Answer} → Result room s a → Fits (values_of a)
  result_fits (refused {p = p} e) = record {
    place = omega (arith, (judge_small room s _ p e).place);
    a = omega arith;
    b = omega arith;
  }
  result_fits (not_certified e o) = record {
    place = omega (
      arith,
      open_small (machine_in s) (word_in s) (sequence_in s) _ o,
      proper_entries (machine_in s) (proper e),
    );
    a = omega arith;
    b = omega arith;
  }
  result_fits (judged e c h) = judged_fits e h

  pub judgement_fits : Fits (values_of (judgement room s))
  judgement_fits = result_fits (judgement_result room s)

-- ---- class 100 is pass, and no refusal's number
judged_pass : (M : Mealy) (xs ys : List ℕ) {a : Answer} → Judged M xs ys a → (values_of a).class ≡ 100
    → (size : ℕ) × (a ≡ Pass size (values_of a).b)
judged_pass M xs ys (passed {size = size} y n t) c = (size, refl)
judged_pass M xs ys (wrong l r d n x y) c = let z : ⊥ = omega arith in absurd z
judged_pass M xs ys (unheard l r n y) c = let z : ⊥ = omega arith in absurd z
judged_pass M xs ys (unfinished y l r) c = let z : ⊥ = omega arith in absurd z

result_pass : (room : ℕ) (s : List ℕ) {a : Answer} → Result room s a → (values_of a).class ≡ 100
    → (size : ℕ) × (a ≡ Pass size (values_of a).b)
result_pass room s (refused {n = n} {p = p} e) c = absurd (omega (arith, (judge_small room s n p e).number))
result_pass room s (not_certified e o) c = let z : ⊥ = omega arith in absurd z
result_pass room s (judged e h j) c = judged_pass (machine_in s) (sequence_in s) (answers_in s) j c

pub class_pass : (room : ℕ) (s : List ℕ) → (values_of (judgement room s)).class ≡ 100
    → (size : ℕ) × (judgement room s ≡ Pass size (values_of (judgement room s)).b)
class_pass room s c = result_pass room s (judgement_result room s) c
