use Rattle.certify.specs.Certification.{values_of}
use Rattle.certify.proofs.CertificationBounds.{certification_fits}
use Rattle.rig.proofs.rig_certify.Goals as goal

pub pack-requires : goal.pack-requires
pack-requires c =
    let h = c.certify-answer.ensures in
    rw (c.values_of.ensures, h.answer.is) (certification_fits _ _)
