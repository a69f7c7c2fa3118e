-- The starred sequences (§10.3) that are open because a place has no mark, of the twin and of a machine of one state,
-- computed from the definitions. The others are in specs/Certification/Twin.antt.
use Rattle.std.specs.Prelude.{ℕ, ◌≡◌, [], ◌∷◌}
use Rattle.std.proofs.Common.{◌∙◌}
use Rattle.certify.specs.Answer.{Open}
use Rattle.certify.specs.Marks.Twin.{twin, single, marks_mutual, marks_one, marks_late, marks_single_short}
use Rattle.certify.specs.Certification.{outcome}
use Rattle.certify.specs.Certification.Laws.{outcome_of}
use Rattle.certify.specs.Certification.Twin.{mutual_by_marks, one_by_marks, late_by_marks, short_by_marks}

-- 0 0 1 0 1 0 has open number 2 and 5 recognised places
pub twin_mutual : outcome twin (0 ∷ []) (0 ∷ 0 ∷ 1 ∷ 0 ∷ 1 ∷ 0 ∷ []) ≡ Open 5 2
twin_mutual = outcome_of twin (0 ∷ []) (0 ∷ 0 ∷ 1 ∷ 0 ∷ 1 ∷ 0 ∷ []) marks_mutual ∙ mutual_by_marks

-- 0 has open number 1 and 1 recognised place
pub twin_one : outcome twin (0 ∷ []) (0 ∷ []) ≡ Open 1 1
twin_one = outcome_of twin (0 ∷ []) (0 ∷ []) marks_one ∙ one_by_marks

-- 1 0 0 has open number 0 and 2 recognised places
pub twin_late : outcome twin (0 ∷ []) (1 ∷ 0 ∷ 0 ∷ []) ≡ Open 2 0
twin_late = outcome_of twin (0 ∷ []) (1 ∷ 0 ∷ 0 ∷ []) marks_late ∙ late_by_marks

-- with one state and one command 0 has open number 1
pub single_short : (answer : ℕ) → outcome (single answer) (0 ∷ []) (0 ∷ []) ≡ Open 1 1
single_short answer = outcome_of (single answer) (0 ∷ []) (0 ∷ []) (marks_single_short answer) ∙ short_by_marks answer
