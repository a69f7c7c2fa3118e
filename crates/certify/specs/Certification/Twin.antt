-- The starred sequences (§10.3), of the twin and of a machine of one state, computed from the definitions: what is
-- certified, what is open, and with which numbers. The collection of all starred cases takes them from here.
use Rattle.std.specs.Prelude.{ℕ, ◌≡◌, refl, [], ◌∷◌}
use Rattle.sheet.specs.Check.{refusal◌with◌if◌, ◌else◌, first}
use Rattle.certify.specs.Answer.{Certified, Open}
use Rattle.machine.specs.Machine.{machine_of, state_at, run}
use Rattle.certify.specs.Marks.{any, count}
use Rattle.certify.specs.Marks.Twin.{twin, single, marks_built, marks_longer}
use Rattle.certify.specs.Marks.Twin.{marks_three, marks_single_pair, marks_single_built}
use Rattle.certify.specs.Certification.{verified, open_cause, answer_of, outcome}
use Rattle.certify.specs.Certification.Laws.{outcome_of}

-- the built sequence is certified, with 13 places
pub twin_built : outcome twin (0 ∷ []) (0 ∷ 0 ∷ 0 ∷ 0 ∷ 0 ∷ 0 ∷ 1 ∷ 0 ∷ 0 ∷ 0 ∷ 1 ∷ 0 ∷ []) ≡ Certified 13
unfolding open_cause verified refusal◌with◌if◌ ◌else◌ first any count twin machine_of state_at run
twin_built = outcome_of twin (0 ∷ []) (0 ∷ 0 ∷ 0 ∷ 0 ∷ 0 ∷ 0 ∷ 1 ∷ 0 ∷ 0 ∷ 0 ∷ 1 ∷ 0 ∷ []) marks_built

-- the answer to 0 0 1 0 1 0, by its marks
pub mutual_by_marks :
    answer_of (open_cause twin (0 ∷ 0 ∷ 1 ∷ 0 ∷ 1 ∷ 0 ∷ []) (1 ∷ 1 ∷ 0 ∷ 1 ∷ 1 ∷ 1 ∷ 0 ∷ []))
    (count (1 ∷ 1 ∷ 0 ∷ 1 ∷ 1 ∷ 1 ∷ 0 ∷ [])) ≡ Open 5 2
unfolding open_cause verified refusal◌with◌if◌ ◌else◌ first any count twin machine_of state_at run
mutual_by_marks = refl

-- 0 0 1 0 1 0 0 is certified, with 8 places
pub twin_longer : outcome twin (0 ∷ []) (0 ∷ 0 ∷ 1 ∷ 0 ∷ 1 ∷ 0 ∷ 0 ∷ []) ≡ Certified 8
unfolding open_cause verified refusal◌with◌if◌ ◌else◌ first any count twin machine_of state_at run
twin_longer = outcome_of twin (0 ∷ []) (0 ∷ 0 ∷ 1 ∷ 0 ∷ 1 ∷ 0 ∷ 0 ∷ []) marks_longer

-- the answer to 0, by its marks
pub one_by_marks : answer_of (open_cause twin (0 ∷ []) (1 ∷ 0 ∷ [])) (count (1 ∷ 0 ∷ [])) ≡ Open 1 1
unfolding open_cause verified refusal◌with◌if◌ ◌else◌ first any count twin machine_of state_at run
one_by_marks = refl

-- the answer to 1 0 0, by its marks
pub late_by_marks :
    answer_of (open_cause twin (1 ∷ 0 ∷ 0 ∷ []) (0 ∷ 1 ∷ 1 ∷ 0 ∷ [])) (count (0 ∷ 1 ∷ 1 ∷ 0 ∷ [])) ≡ Open 2 0
unfolding open_cause verified refusal◌with◌if◌ ◌else◌ first any count twin machine_of state_at run
late_by_marks = refl

-- 0 0 0 has open number 2 and 4 recognised places
pub twin_three : outcome twin (0 ∷ []) (0 ∷ 0 ∷ 0 ∷ []) ≡ Open 4 2
unfolding open_cause verified refusal◌with◌if◌ ◌else◌ first any count twin machine_of state_at run
twin_three = outcome_of twin (0 ∷ []) (0 ∷ 0 ∷ 0 ∷ []) marks_three

-- with one state and one command 0 0 is certified
pub single_pair : (answer : ℕ) → outcome (single answer) (0 ∷ []) (0 ∷ 0 ∷ []) ≡ Certified 3
unfolding open_cause verified refusal◌with◌if◌ ◌else◌ first any count single machine_of state_at run
single_pair answer = outcome_of (single answer) (0 ∷ []) (0 ∷ 0 ∷ []) (marks_single_pair answer)

-- the answer to 0, by its marks, with one state and one command
pub short_by_marks : (answer : ℕ)
    → answer_of (open_cause (single answer) (0 ∷ []) (1 ∷ 0 ∷ [])) (count (1 ∷ 0 ∷ [])) ≡ Open 1 1
unfolding open_cause verified refusal◌with◌if◌ ◌else◌ first any count single machine_of state_at run
short_by_marks answer = refl

-- and what is built, 0 0 0 0, is certified
pub single_built : (answer : ℕ) → outcome (single answer) (0 ∷ []) (0 ∷ 0 ∷ 0 ∷ 0 ∷ []) ≡ Certified 5
unfolding open_cause verified refusal◌with◌if◌ ◌else◌ first any count single machine_of state_at run
single_built answer = outcome_of (single answer) (0 ∷ []) (0 ∷ 0 ∷ 0 ∷ 0 ∷ []) (marks_single_built answer)
