-- The places of judging's refusals, but for 11, lie inside the longest sheet. That all values of its answer are small is
-- in proofs/JudgingBounds.antt.
use Rattle.std.specs.Prelude.{ℕ, true, List}
use Rattle.std.proofs.Common.{sym, arith}
use Rattle.sheet.specs.Check.{first_cause}
use Rattle.sheet.specs.Check.Bounds.{WhereRefused, place_of, place_cause, place_else}
use Rattle.sheet.specs.Reader.{sequence_in, answers_in, answers_record}
use Rattle.sheet.specs.Reader.Laws.{record_inside}
use Rattle.sheet.specs.Reader.Bounds.{Small}
use Rattle.machine.specs.Causes.Laws.{cause10_is}
use Rattle.machine.specs.Causes.Bounds.{load_short}
use Rattle.certify.specs.Certification.{sequence_needs, marking_causes}
use Rattle.certify.specs.Certification.Laws.{load_clear}
use Rattle.certify.specs.Certification.Bounds.{marking_small}
use Rattle.judge.specs.Judging.{judge_causes}
use Rattle.judge.specs.Judging.Laws.{judge_causes_are}
use Rattle.sheet.specs.Format.{standard}

-- ---- refusals
-- of the causes of certifying and 10
pub judge_small : (room : ℕ) (s : List ℕ) → WhereRefused Small (first_cause (judge_causes room s))
judge_small room s =
    place_of Small (judge_causes_are room s)
    (place_else Small (first_cause (marking_causes true room s)) _ (marking_small true room s)
    (λ q. place_of Small (sym (cause10_is (answers_record s).start (sequence_in s) (answers_in s)))
    (place_cause Small 10 (answers_record s).start _
    (λ t. record {
      number = omega arith;
      place = omega (
        arith,
        record_inside standard standard.answers s,
        load_short (sequence_needs true) s (load_clear true room s q),
      );
    }))))
