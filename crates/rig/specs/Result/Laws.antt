-- The laws of the rig's number: each field can be read back from it, because it fits; and what judging's answer shows
-- of a unit, its number shows.
use Rattle.std.specs.Prelude.{ℕ, ◌≡◌, refl, List}
use Rattle.std.proofs.Common.{sym, ◌∙◌, arith}
use Rattle.sheet.specs.Values.{Fits}
use Rattle.facts.specs.Bytes.{Bytes}
use Rattle.sheet.specs.declared.check.Values.{Values}
use Rattle.certify.specs.Certification.{certification, values_of as certifying_values}
use Rattle.certify.proofs.CertificationBounds.{certification_fits}
use Rattle.judge.specs.Judging.{judgement, values_of as judging_values}
use Rattle.judge.proofs.JudgingLaws.{pass_identity}
use Rattle.judge.proofs.JudgingBounds.{judgement_fits, class_pass}
use Rattle.rig.specs.Result.{packed, class_in, place_in, a_in, b_in, RigIdentity}

-- ---- the fields
-- the fields of a number are these values
pub record Fields (r : ℕ) (v : Values) : Type 0 where
  pub class : class_in r ≡ v.class
  pub place : place_in r ≡ v.place
  pub a : a_in r ≡ v.a
  pub b : b_in r ≡ v.b

pub packed_fields : (v : Values) → Fits v → Fields (packed v) v
unfolding packed
packed_fields v h = record { class = omega arith; place = omega arith; a = omega arith; b = omega arith }

pub certifying_fields : (room : ℕ) (s : List ℕ)
    → Fields (packed (certifying_values (certification room s))) (certifying_values (certification room s))
certifying_fields room s = packed_fields _ (certification_fits room s)

pub judging_fields : (room : ℕ) (s : List ℕ) → Bytes s
    → Fields (packed (judging_values (judgement room s))) (judging_values (judgement room s))
judging_fields room s bytes = packed_fields _ (judgement_fits room s bytes)

-- ---- the identity claim
pub number_identity : (room : ℕ) (s : List ℕ) → Bytes s → RigIdentity s (packed (judging_values (judgement room s)))
number_identity room s bytes U hundred own =
    let f = judging_fields room s bytes in
    let pass = class_pass room s (sym f.class ∙ hundred) in
    rw f.b (pass_identity room s refl U pass.0 _ pass.1 own)
