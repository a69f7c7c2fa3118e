-- What the program's comparison of the answers asks of its caller. Nothing here has to be believed: the service's
-- contract does not name it.
use Rattle.std.specs.Prelude.{ℕ, ◌≤◌, List, length}
use Rattle.machine.specs.Limits.{most_sequence}
use Rattle.machine.specs.Machine.{Mealy, Proper, Commands}

-- a machine within its limits, a sequence of its commands, and no more answers than commands
pub record CompareRequires (M : Mealy) (xs ys : List ℕ) : Type 0 where
  pub proper : Proper M
  pub commands : Commands most_sequence M.k xs
  pub few : length ys ≤ length xs
