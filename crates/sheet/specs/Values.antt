-- The number and values of an answer (§8.3), and how a service's promise uses them (§4.4). Each type of answers has one
-- definition, `values_of`, with a clause for each case: here that of checks, those of the services beside their answers.
use Rattle.std.specs.Prelude.{Err}
use Rattle.std.specs.Prelude.{ℕ, ◌^◌, ◌<◌, ◌≡◌}
use Rattle.std.proofs.Math.Option.{Option, none, some}
use Rattle.sheet.specs.Check.{Check, Clear}
use Rattle.sheet.specs.declared.check.Values.{Values}
pub mod Laws

-- number and values of a refusal (§8.3): the class is its number, the place its place; a and b are 0
abbrev pub refusal_values : ℕ → ℕ → Values
refusal_values number place = record { class = number; place = place; a = 0; b = 0 }

-- number and values of a check (§4.4): those of its refusal, or none where it is Clear
abbrev pub values_of : Check → Option Values
values_of Clear = none
values_of (Err r) = some (refusal_values r.number r.place)

-- what a service promises of its answer (§4.4): it is the specified one, and so are its number and values
pub record Returns {A B : Type 0} (values_of : A → B) (specified answer : A) : Type 0 where
  pub is : answer ≡ specified
  pub values : values_of answer ≡ values_of specified

-- values whose place, a and b fit their 24, 8 and 8 bits of the C host's number (§8.3); the class has the bits above
pub record Fits (v : Values) : Type 0 where
  pub place : v.place < 2 ^ 24
  pub a : v.a < 256
  pub b : v.b < 256
