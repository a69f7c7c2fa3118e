-- What the identification of the state in which a unit began promises. Nothing here has to be believed: the contracts
-- of `start` and `step` do not name it.
use Rattle.std.specs.Prelude.{ℕ, ◌≡◌, List, Option, Some, None}
use Rattle.std.proofs.Math.Option.{none, some}
use Rattle.machine.specs.Machine.{Mealy, run, answers}
use Rattle.desk.specs.Desk.{first_state}

-- whether a state gives these answers to the word, and then where the word leads from it
pub record Follows (M : Mealy) (w ys : List ℕ) (s : ℕ) (r : Option ℕ) : Type 0 where
  pub agrees : {end : ℕ} → r ≡ Some end → answers M s w ≡ ys
  pub ends : {end : ℕ} → r ≡ Some end → end ≡ run M s w
  pub differs : r ≡ None → answers M s w ≡ ys → ⊥

-- whether some state gives these answers to the word, and then where the word leads from the least that does
pub record Identifies (M : Mealy) (w ys : List ℕ) (r : Option ℕ) : Type 0 where
  pub found : {end : ℕ} → r ≡ Some end → (s : ℕ) × (first_state M w ys M.n ≡ some s) × (end ≡ run M s w)
  pub missing : r ≡ None → first_state M w ys M.n ≡ none
