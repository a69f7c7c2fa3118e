-- The law of what a service promises of its answer.
use Rattle.std.specs.Prelude.{◌≡◌}
use Rattle.std.proofs.Common.{ap}
use Rattle.sheet.specs.Values.{Returns}

-- an answer that is the specified one has its number and values
pub returns_specified : {A B : Type 0} (values_of : A → B) {specified answer : A} → answer ≡ specified
    → Returns values_of specified answer
returns_specified values_of e = record { is = e; values = ap values_of e }
