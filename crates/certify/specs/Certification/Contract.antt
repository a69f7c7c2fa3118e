-- What an answer says, by the first cause, the open number as a cause, and the number of marks. That the contract of
-- certifying holds of the definitions is in the certify crate's proofs/CertificationContract.antt.
use Rattle.std.specs.Prelude.{Err}
use Rattle.std.specs.Prelude.{ℕ, ◌≡◌, refl, List}
use Rattle.sheet.specs.Check.{first_cause, refused_or, Check, Clear, Refused}
use Rattle.certify.specs.Answer.{Answer, Certified as CertifiedAnswer, Open}
use Rattle.sheet.specs.Reader.{word_in, sequence_in}
use Rattle.machine.specs.Machine.{Mealy}
use Rattle.machine.specs.Causes.{machine_in}
use Rattle.certify.specs.Marks.{count, marks}
use Rattle.certify.specs.Certification.{certify_causes, open_in, answer_of, outcome, certification}

-- ---- what an answer says
-- by the first cause, the open number as a cause, and the number of marks
pub data Answered (c d : Check) (m : ℕ) : Answer → Type 0 where
  certified : {n : ℕ} → c ≡ Clear → d ≡ Clear → n ≡ m → Answered c d m (CertifiedAnswer n)
  still_open : {n v : ℕ} → c ≡ Clear → (a : ℕ) → d ≡ Refused a v → n ≡ m → Answered c d m (Open n v)
  refused : {n p : ℕ} → c ≡ Refused n p → Answered c d m (Refused n p)

pub answered : (c d : Check) (m : ℕ) → Answered c d m (refused_or Refused c (answer_of d m))
answered Clear Clear m = certified refl refl refl
answered Clear (Err r) m = still_open refl r.number refl refl
answered (Err r) d m = refused refl

module _ (room : ℕ) (s : List ℕ) where
  abbrev M : Mealy
  M = machine_in s

  abbrev w : List ℕ
  w = word_in s

  abbrev xs : List ℕ
  xs = sequence_in s

  pub answer_by :
      Answered (first_cause (certify_causes room s)) (open_in M w xs) (count (marks M w xs)) (certification room s)
  unfolding certification outcome
  answer_by = answered (first_cause (certify_causes room s)) (open_in M w xs) (count (marks M w xs))

  pub answer_refused : (n p : ℕ) → certification room s ≡ Refused n p
      → first_cause (certify_causes room s) ≡ Refused n p
  answer_refused n p e = elim (rw e at answer_by) [ refused c ↦ c ]
