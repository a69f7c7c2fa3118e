-- What certifying answers (§5.4): certified, open, or a refusal.
use Rattle.std.specs.Prelude.{ℕ, Result, Ok}
use Rattle.sheet.specs.declared.check.Refusal.{Refusal}
use Rattle.certify.specs.declared.answer.Certification.{Certification}
use Rattle.certify.specs.declared.answer.Certification.TheVariants.{Certified as IsCertified, Open as IsOpen}

abbrev pub Answer : Type 0
Answer = Result Certification Refusal

-- certified, with the number of recognised places
pattern abbrev pub Certified : ℕ → Answer
Certified recognised = Ok (IsCertified recognised)

-- open, with that number and the open number
pattern abbrev pub Open : ℕ → ℕ → Answer
Open recognised number = Ok (IsOpen recognised number)
