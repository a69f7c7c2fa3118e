-- The C host's number (§8.3), for class, place, a and b, and what the two exported functions promise. The laws stand in
-- Result.Laws.
use Rattle.std.specs.Prelude.{ℕ, ◌+◌, ◌*◌, ◌/◌, ◌%◌, ◌^◌, ◌≡◌, List, length}
use Rattle.sheet.specs.Reader.{sequence_in, answers_in}
use Rattle.machine.specs.Causes.{machine_in}
use Rattle.sheet.specs.declared.check.Values.{Values}
use Rattle.certify.specs.Certification.{certification, marks_after, values_of as certifying_values}
use Rattle.machine.specs.Unit.{Unit, own_answers}
use Rattle.judge.specs.Renaming.{Renaming}
use Rattle.judge.specs.Judging.{judgement, judged_marks, values_of as judging_values}
pub mod Laws

-- class, place, a and b of an answer as one number (§8.3)
unfoldable pub packed : Values → ℕ
packed v = v.class * 2 ^ 40 + v.place * 2 ^ 16 + v.a * 256 + v.b

-- the class in such a number, as the host reads it: what is above the lowest 40 bits (§8.3)
abbrev pub class_in : ℕ → ℕ
class_in r = r / 2 ^ 40

-- the place in it: 24 bits above the lowest 16
abbrev pub place_in : ℕ → ℕ
place_in r = r / 2 ^ 16 % 2 ^ 24

-- a: the second byte
abbrev pub a_in : ℕ → ℕ
a_in r = r / 256 % 256

-- b: the lowest byte
abbrev pub b_in : ℕ → ℕ
b_in r = r % 256

-- what `rig_certify` promises of a sheet (§4.4, §8.3): the number that it returns, and every byte of the lent buffer
pub record RigCertifies (s before after : List ℕ) (r : ℕ) : Type 0 where
  pub number : r ≡ packed (certifying_values (certification (length before) s))
  pub marks : after ≡ marks_after s before

-- the same of `rig_judge`
pub record RigJudges (s before after : List ℕ) (r : ℕ) : Type 0 where
  pub number : r ≡ packed (judging_values (judgement (length before) s))
  pub marks : after ≡ judged_marks s before

-- the identity claim (§9.3) for the host, of a sheet and the number that `rig_judge` returns: for every unit, if the
-- class is 100 and record 4 holds the answers that the unit gives to the sequence, there is a renaming with end state b
abbrev pub RigIdentity : List ℕ → ℕ → Type 0
RigIdentity s r =
    (U : Unit (machine_in s).n (machine_in s).k) → class_in r ≡ 100
    → answers_in s ≡ own_answers (machine_in s).n (machine_in s).k U (sequence_in s)
    → Renaming (machine_in s) U (sequence_in s) (b_in r)
