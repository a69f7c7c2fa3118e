-- The places of certifying's refusals lie inside the longest sheet. That all values of its answer are small is in the
-- certify crate's proofs/CertificationBounds.antt.
use Rattle.std.specs.Prelude.{ℕ, refl, Bool, List}
use Rattle.std.proofs.Common.{arith}
use Rattle.sheet.specs.Check.{first_cause}
use Rattle.sheet.specs.Promise.{cause9}
use Rattle.sheet.specs.Check.Bounds.{WhereRefused, place_of, place_else}
use Rattle.sheet.specs.Reader.{sequence_in}
use Rattle.sheet.specs.Reader.Bounds.{Small}
use Rattle.sheet.specs.Promise.Laws.{room_refused}
use Rattle.machine.specs.Causes.{load_causes}
use Rattle.machine.specs.Causes.Lists.{sequence_commands}
use Rattle.machine.specs.Causes.Bounds.{load_small}
use Rattle.certify.specs.Certification.{sequence_needs, mark_bytes, marking_causes}
use Rattle.certify.specs.Certification.Laws.{marking_causes_are}

-- ---- refusals
-- of the causes of loading and 9, for a service that marks places, whether it needs the answers or not
pub marking_small : (answers : Bool) (room : ℕ) (s : List ℕ)
    → WhereRefused Small (first_cause (marking_causes answers room s))
marking_small answers room s =
    let xs = sequence_in s in
    let needs = sequence_needs answers in
    place_of Small (marking_causes_are answers room s)
    (place_else Small (first_cause (load_causes needs s)) (cause9 room (mark_bytes xs)) (load_small needs s)
    (λ t n p e.
    let h = room_refused room (mark_bytes xs) e in
    record {
      number = omega (arith, h.0);
      place = omega (arith, h.1.0, (sequence_commands needs s refl t).few);
    }))
