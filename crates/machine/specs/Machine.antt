-- The machine that a sheet specifies (§3.1), its runs (§3.2), and separation (§3.3).
-- The laws stand in Machine.Laws.
use Rattle.std.specs.Prelude.{ℕ, ◌+◌, ◌*◌, ◌≤◌, ◌<◌, ◌≡◌, List, [], ◌∷◌, length, get_or, take}
use Rattle.facts.specs.Lists.{Below}
use Rattle.sheet.specs.Format.{Format}
use Rattle.machine.specs.Limits.{least, most_states, most_commands, most_word}
use Rattle.machine.specs.declared.machine.Machine.{Machine}
pub mod Laws

-- a Mealy machine (§1.2, §3.1): n states and k commands, both numbered from 0, a start, and for each entry (s, c) the
-- next state and the answer
pub record Mealy : Type 0 where
  pub n : ℕ
  pub k : ℕ
  pub start : ℕ
  pub next : ℕ → ℕ → ℕ
  pub answer : ℕ → ℕ → ℕ

-- the byte that stands for no answer (§2.2), in a recording of a unit's answers; a table may not specify it (§4.2). In
-- the literature the absence of an output is called quiescence
abbrev pub no_answer : ℕ
no_answer = 255

-- where pair e, counted from 0, begins in the machine's payload (§2.2, §3.1)
abbrev pub pair_at : Format → ℕ → ℕ
pair_at F e = F.table + 2 * e

-- the machine of a payload (§3.1): n and k are its first bytes; entry (s, c) is pair s·k + c of the table, its next
-- state and its answer; the start is 0
unfoldable pub machine_of : Format → List ℕ → Mealy
machine_of F p = record {
  n = get_or p 0 0;
  k = get_or p 1 0;
  start = 0;
  next = λ s c. get_or p (pair_at F (s * get_or p 1 0 + c)) 0;
  answer = λ s c. get_or p (pair_at F (s * get_or p 1 0 + c) + 1) 0;
}

-- the machine of a table's two columns, entry (s, c) at s·k + c
unfoldable pub tabled : ℕ → ℕ → ℕ → List ℕ → List ℕ → Mealy
tabled n k start next answer = record {
  n = n;
  k = k;
  start = start;
  next = λ s c. get_or next (s * k + c) 0;
  answer = λ s c. get_or answer (s * k + c) 0;
}

-- the machine that a value of the program's type Machine holds
abbrev pub meaning : Machine → Mealy
meaning m = tabled m.n m.k m.start m.next m.answer

-- the state to which commands lead from state s (§3.2)
unfoldable pub run : Mealy → ℕ → List ℕ → ℕ
run M s [] = s
run M s (c ∷ w) = run M (M.next s c) w

-- the answers to commands from state s on (§3.2)
unfoldable pub answers : Mealy → ℕ → List ℕ → List ℕ
answers M s [] = []
answers M s (c ∷ w) = M.answer s c ∷ answers M (M.next s c) w

-- the state of place p of a sequence (§3.2): where its first p commands lead from the start
unfoldable pub state_at : Mealy → List ℕ → ℕ → ℕ
state_at M xs p = run M M.start (take p xs)

-- the word separates (§3.3): no two different states give equal answers to it. In the literature it is then a preset
-- distinguishing sequence
abbrev pub Separates : Mealy → List ℕ → Type 0
Separates M w = (i j : ℕ) → i < M.n → j < M.n → answers M i w ≡ answers M j w → i ≡ j

-- a machine within the limits (§2.2), whose start and next states are states
pub record Proper (M : Mealy) : Type 0 where
  pub some_states : least ≤ M.n
  pub few_states : M.n ≤ most_states
  pub some_commands : least ≤ M.k
  pub few_commands : M.k ≤ most_commands
  pub starts : M.start < M.n
  pub stays : (s c : ℕ) → s < M.n → c < M.k → M.next s c < M.n

-- every entry specifies an answer (§2.2): none is the byte for no answer
abbrev pub AlwaysAnswers : Mealy → Type 0
AlwaysAnswers M = (s c : ℕ) → s < M.n → c < M.k → M.answer s c ≡ no_answer → ⊥

-- a word or a sequence within its limits (§2.2): least to most commands, each below k
pub record Commands (most k : ℕ) (w : List ℕ) : Type 0 where
  pub some : least ≤ length w
  pub few : length w ≤ most
  pub low : Below k w

-- a word within its limits (§2.2) that separates the states (§3.3)
pub record Distinguishes (M : Mealy) (w : List ℕ) : Type 0 where
  pub commands : Commands most_word M.k w
  pub separates : Separates M w
