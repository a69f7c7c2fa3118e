-- The marks of the starred sequences (§10.3), of the twin and of a machine of one state, computed from
-- the definitions.
use Rattle.std.specs.Prelude.{ℕ, ◌≡◌, refl, List, [], ◌∷◌}
use Rattle.machine.specs.Machine.{Mealy, machine_of, state_at, run}
use Rattle.certify.specs.Marks.{any, tabulate, marks_by, count, occurs_at, by_rule2, grown, settled, closure, marks}
use Rattle.sheet.specs.Format.{standard}

-- the twin (§10.2): the payload of its record, and the machine
abbrev pub twin_table : List ℕ
twin_table = 2 ∷ 2 ∷ 1 ∷ 0 ∷ 0 ∷ 5 ∷ 0 ∷ 1 ∷ 1 ∷ 5 ∷ []

unfoldable pub twin : Mealy
twin = machine_of standard twin_table

-- one state and one command, with any answer
abbrev pub single_table : ℕ → List ℕ
single_table answer = 1 ∷ 1 ∷ 0 ∷ answer ∷ []

unfoldable pub single : ℕ → Mealy
single answer = machine_of standard (single_table answer)

pub marks_built : marks twin (0 ∷ []) (0 ∷ 0 ∷ 0 ∷ 0 ∷ 0 ∷ 0 ∷ 1 ∷ 0 ∷ 0 ∷ 0 ∷ 1 ∷ 0 ∷ [])
    ≡ 1 ∷ 1 ∷ 1 ∷ 1 ∷ 1 ∷ 1 ∷ 1 ∷ 1 ∷ 1 ∷ 1 ∷ 1 ∷ 1 ∷ 1 ∷ []
unfolding marks closure settled grown by_rule2 occurs_at any tabulate marks_by count twin machine_of state_at run
marks_built = refl

pub marks_mutual : marks twin (0 ∷ []) (0 ∷ 0 ∷ 1 ∷ 0 ∷ 1 ∷ 0 ∷ []) ≡ 1 ∷ 1 ∷ 0 ∷ 1 ∷ 1 ∷ 1 ∷ 0 ∷ []
unfolding marks closure settled grown by_rule2 occurs_at any tabulate marks_by count twin machine_of state_at run
marks_mutual = refl

pub marks_longer : marks twin (0 ∷ []) (0 ∷ 0 ∷ 1 ∷ 0 ∷ 1 ∷ 0 ∷ 0 ∷ []) ≡ 1 ∷ 1 ∷ 1 ∷ 1 ∷ 1 ∷ 1 ∷ 1 ∷ 1 ∷ []
unfolding marks closure settled grown by_rule2 occurs_at any tabulate marks_by count twin machine_of state_at run
marks_longer = refl

pub marks_one : marks twin (0 ∷ []) (0 ∷ []) ≡ 1 ∷ 0 ∷ []
unfolding marks closure settled grown by_rule2 occurs_at any tabulate marks_by count twin machine_of state_at run
marks_one = refl

pub marks_late : marks twin (0 ∷ []) (1 ∷ 0 ∷ 0 ∷ []) ≡ 0 ∷ 1 ∷ 1 ∷ 0 ∷ []
unfolding marks closure settled grown by_rule2 occurs_at any tabulate marks_by count twin machine_of state_at run
marks_late = refl

pub marks_three : marks twin (0 ∷ []) (0 ∷ 0 ∷ 0 ∷ []) ≡ 1 ∷ 1 ∷ 1 ∷ 1 ∷ []
unfolding marks closure settled grown by_rule2 occurs_at any tabulate marks_by count twin machine_of state_at run
marks_three = refl

pub marks_single_pair : (answer : ℕ) → marks (single answer) (0 ∷ []) (0 ∷ 0 ∷ []) ≡ 1 ∷ 1 ∷ 1 ∷ []
unfolding marks closure settled grown by_rule2 occurs_at any tabulate marks_by count single machine_of state_at run
marks_single_pair answer = refl

pub marks_single_short : (answer : ℕ) → marks (single answer) (0 ∷ []) (0 ∷ []) ≡ 1 ∷ 0 ∷ []
unfolding marks closure settled grown by_rule2 occurs_at any tabulate marks_by count single machine_of state_at run
marks_single_short answer = refl

pub marks_single_built : (answer : ℕ) → marks (single answer) (0 ∷ []) (0 ∷ 0 ∷ 0 ∷ 0 ∷ []) ≡ 1 ∷ 1 ∷ 1 ∷ 1 ∷ 1 ∷ []
unfolding marks closure settled grown by_rule2 occurs_at any tabulate marks_by count single machine_of state_at run
marks_single_built answer = refl
