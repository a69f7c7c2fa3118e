-- The renaming of §9.2, of which the identity claim is made. Renaming.Identity shows that a certified sequence with the
-- specified answers gives one, Renaming.Behaviour what it says of the unit's answers.
use Rattle.std.specs.Prelude.{ℕ, ◌≡◌, List, length}
use Rattle.machine.specs.Machine.{Mealy, state_at}
use Rattle.machine.specs.Unit.{Unit, present_state, Isomorphism}
pub mod Identity
pub mod Behaviour

-- a renaming (§9.2): an isomorphism that assigns u to the start and the present state after the sequence to the end
-- state
pub record Renaming (M : Mealy) (U : Unit M.n M.k) (xs : List ℕ) (end : ℕ) : Type 0 where
  pub isomorphism : Isomorphism M U
  -- u is assigned to the start
  pub start_assigned : isomorphism.assigned M.start ≡ U.u
  -- the end state is that of place N, and the unit's present state is assigned to it
  pub end_is : end ≡ state_at M xs (length xs)
  pub end_assigned : isomorphism.assigned end ≡ present_state M.n M.k U xs
