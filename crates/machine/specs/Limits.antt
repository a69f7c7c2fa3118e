-- The limits of §2.2. The code names them once, as constants of the type Machine, and `Machine::limits` shows that both
-- are the same.
use Rattle.std.specs.Prelude.{ℕ, ◌+◌, ◌*◌, ◌≤◌, ◌≡◌, refl}
use Rattle.std.proofs.Common.{mul-le-mul}
use Rattle.sheet.specs.Format.{Format, standard, longest, header}
use Rattle.machine.specs.declared.machine.Limits.{Limits}

-- the least of each: states, commands, commands of a word and of a sequence
abbrev pub least : ℕ
least = 1

-- the most states, n
abbrev pub most_states : ℕ
most_states = 10

-- the most commands, k
abbrev pub most_commands : ℕ
most_commands = 8

-- the most commands of a word, L
abbrev pub most_word : ℕ
most_word = 16

-- the most commands of a sequence, N
abbrev pub most_sequence : ℕ
most_sequence = 20355

-- the most entries, n·k
abbrev pub most_entries : ℕ
most_entries = most_states * most_commands

-- the most bytes of the machine's payload: those before its table, and two for each entry
abbrev pub most_machine : Format → ℕ
most_machine F = F.table + 2 * most_entries

-- the limits as one value, for the contract of `Machine::limits`
abbrev pub limits : Limits
limits = record {
  least = least;
  states = most_states;
  commands = most_commands;
  word = most_word;
  sequence = most_sequence;
}

-- the longest sheet is that of the largest machine, word, sequence and answers (§2.1)
pub longest_is : longest
    ≡ (header + most_machine standard) + (header + most_word) + (header + most_sequence) + (header + most_sequence)
longest_is = refl

-- with n and k within their limits there are at most most_entries entries
pub entries_few : (n k : ℕ) → n ≤ most_states → k ≤ most_commands → n * k ≤ most_entries
entries_few n k p q = mul-le-mul {n₁ = n} {m₁ = k} {n₂ = most_states} {m₂ = most_commands} p q
