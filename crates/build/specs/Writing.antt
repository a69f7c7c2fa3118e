-- What the program's functions that write the sequence promise each other: commands written into a buffer, by
-- the table of transfers.
use Rattle.std.specs.Prelude.{ℕ, ◌+◌, ◌-◌, ◌*◌, ◌≤◌, ◌<◌, ◌≡◌, List, length}
use Rattle.sheet.specs.Check.{Clear}
use Rattle.sheet.specs.Writing.{Puts}
use Rattle.machine.specs.Limits.{most_states, most_commands, most_word, most_sequence}
use Rattle.machine.specs.Machine.{Mealy, run, Proper, Commands}
use Rattle.build.specs.declared.writing.Position.{Position}
use Rattle.build.specs.Sequence.{most_block}
use Rattle.build.specs.Building.{cause8}
use Rattle.build.specs.Table.{Filled}

-- ---- the most commands of each part, on a machine within the limits
abbrev pub most_approach : ℕ
most_approach = (most_states - 1) * most_block

abbrev pub most_test : ℕ
most_test = most_states * most_block + 1

abbrev pub most_state_tests : ℕ
most_state_tests = most_commands * most_test

abbrev pub most_tests : ℕ
most_tests = most_states * most_state_tests

-- what writing needs of a machine, a word and a table: both are within their limits, cause 8 is not present, so every
-- T(s) leads on, and the table has all transfers
pub record WriteRequires (M : Mealy) (w rows : List ℕ) : Type 0 where
  pub proper : Proper M
  pub commands : Commands most_word M.k w
  pub connected : cause8 M w ≡ Clear
  pub filled : Filled M w M.n rows

-- ---- writing
-- commands put at a place of a buffer where they fit, and the place behind them also where they do not
pub record Adds (before : List ℕ) (at : ℕ) (xs after : List ℕ) (end : ℕ) : Type 0 where
  pub ends : end ≡ at + length xs
  pub puts : end ≤ length before → Puts before at xs after end

-- the same, with the state that they lead to
pub record Moves (M : Mealy) (before : List ℕ) (at state : ℕ) (xs after : List ℕ) (p : Position) : Type 0 where
  pub adds : Adds before at xs after p.at
  pub leads : p.state ≡ run M state xs

-- what writing a part of at most so many commands asks, on a machine of n states: that it begins in one of them, and
-- that the part still belongs to a sequence within the limit
pub record PartRequires (n at state most : ℕ) : Type 0 where
  pub low : state < n
  pub room : at + most ≤ most_sequence
