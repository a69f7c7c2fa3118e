-- The program's table of the transfers B(s): a row for each state, first the transfer's length, then its commands.
-- Nothing here has to be believed: the service's contract does not name it.
use Rattle.std.specs.Prelude.{ℕ, ◌+◌, ◌*◌, ◌<◌, ◌≡◌, List, [], length, get_or, take, drop}
use Rattle.std.proofs.Math.Option
use Rattle.machine.specs.Limits.{most_states}
use Rattle.machine.specs.Machine.{Mealy}
use Rattle.build.specs.Sequence.{B}

-- a row's length, and the table's
abbrev pub row_size : ℕ
row_size = most_states

abbrev pub table_size : ℕ
table_size = most_states * row_size

-- the commands of a row
unfoldable pub row : List ℕ → ℕ → List ℕ
row rows s = take (get_or rows (s * row_size) 0) (drop (s * row_size + 1) rows)

-- the transfers of a machine and a word, those of the states below n, in a table
pub record Filled (M : Mealy) (w : List ℕ) (n : ℕ) (rows : List ℕ) : Type 0 where
  pub long : length rows ≡ table_size
  pub short : (s : ℕ) → s < n → get_or rows (s * row_size) 0 < row_size
  pub stored : (s : ℕ) → s < n → Option.get_or (B M w s) [] ≡ row rows s

-- a transfer stored in its row, the rows before it as they were
pub record Stored (before after : List ℕ) (s size : ℕ) (commands : List ℕ) : Type 0 where
  pub long : length after ≡ table_size
  pub sized : get_or after (s * row_size) 0 ≡ size
  pub stored : row after s ≡ take size commands
  pub sizes : (i : ℕ) → i < s → get_or after (i * row_size) 0 ≡ get_or before (i * row_size) 0
  pub rows : (i : ℕ) → i < s → get_or before (i * row_size) 0 < row_size → row after i ≡ row before i
