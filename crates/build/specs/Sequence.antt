-- The prescribed sequence (§6.2, §6.3) of a machine M and a word w. T(s) is also called a block. Sequence.Cycle has the
-- laws of the states counted round, Sequence.Laws where each part leads, Sequence.Certified that the sequence is
-- certified, which makes it a checking sequence, and Sequence.Length how long it is at most.
use Rattle.std.specs.Prelude.{ℕ, zero, suc, ◌+◌, ◌-◌, ◌*◌, Bool, true, false, List, [], ◌∷◌, ◌++◌, eqb, length}
use Rattle.std.proofs.Math.Option.{Option, get_or}
use Rattle.machine.specs.Limits.{most_states, most_word}
use Rattle.machine.specs.Machine.{Mealy, run}
use Rattle.build.specs.Transfer.{transfer}
pub mod Cycle
pub mod Laws
pub mod Certified
pub mod Length

-- 0 after the last state, else one more
abbrev pub next_or : Bool → ℕ → ℕ
next_or true s = 0
next_or false s = s + 1

-- the state after s (§6.2), of a number of states n
unfoldable pub following : ℕ → ℕ → ℕ
following n s = next_or (eqb (s + 1) n) s

-- B(s) (§6.2): the transfer to the state after s, from the state to which the word leads from s
abbrev pub B : Mealy → List ℕ → ℕ → Option (List ℕ)
B M w s = transfer M (run M s w) (following M.n s)

-- T(s) (§6.2): the word and after it B(s). Where there is no B(s) cause 8 is present and nothing is built
unfoldable pub T : Mealy → List ℕ → ℕ → List ℕ
T M w s = w ++ get_or (B M w s) []

-- the i-th state after the start, counted round; for start 0 it is state i, for each i below n: nth_state_is, in
-- Sequence.Cycle
unfoldable pub nth_state : Mealy → ℕ → ℕ
nth_state M zero = M.start
nth_state M (suc i) = following M.n (nth_state M i)

-- the first i blocks of the opening
unfoldable pub first_blocks : Mealy → List ℕ → ℕ → List ℕ
first_blocks M w zero = []
first_blocks M w (suc i) = first_blocks M w i ++ T M w (nth_state M i)

-- the opening (§6.3, 1): a block for each state, then that of the start again; in the literature an α-sequence
unfoldable pub opening : Mealy → List ℕ → List ℕ
opening M w = first_blocks M w M.n ++ T M w M.start

-- commands, or none where the state is reached already
abbrev pub unless : Bool → List ℕ → List ℕ
unless true xs = []
unless false xs = xs

-- the way to state s (§6.3, 2): as long as the machine is not in s, the block of its present state, at most i times. n
-- times are enough (approach_reaches, in Sequence.Laws); approach_here and approach_more are the equations without i
unfoldable pub approach : Mealy → List ℕ → ℕ → ℕ → ℕ → List ℕ
approach M w zero present s = []
approach M w (suc i) present s =
    unless (eqb present s) (T M w present ++ approach M w i (run M present (T M w present)) s)

-- an entry's test (§6.3, 2): the way to its state, the command, and the block of the entry's next state. Command and
-- block are a transition test in the literature
unfoldable pub test : Mealy → List ℕ → ℕ → ℕ → ℕ → List ℕ
test M w present s c = approach M w M.n present s ++ (c ∷ T M w (M.next s c))

-- the tests of the first c entries of state s, by rising command (§6.3, 2), from the present state on
unfoldable pub state_tests : Mealy → List ℕ → ℕ → ℕ → ℕ → List ℕ
state_tests M w present s zero = []
state_tests M w present s (suc c) = let xs = state_tests M w present s c in xs ++ test M w (run M present xs) s c

-- the tests of the first states' entries, by rising state (§6.3, 2), from the present state on
unfoldable pub tests : Mealy → List ℕ → ℕ → ℕ → List ℕ
tests M w present zero = []
tests M w present (suc s) = let xs = tests M w present s in xs ++ state_tests M w (run M present xs) s M.k

-- the whole sequence (§6.3)
unfoldable pub sequence : Mealy → List ℕ → List ℕ
sequence M w = let xs = opening M w in xs ++ tests M w (run M M.start xs) M.n

-- c of the length formula (§6.4): no T(s) has more commands
abbrev pub block_bound : Mealy → List ℕ → ℕ
block_bound M w = length w + M.n - 1

-- c at the limits of states and word
abbrev pub most_block : ℕ
most_block = most_word + most_states - 1

-- the length formula (§6.4), which the sequence keeps to: sequence_length, in Sequence.Length
unfoldable pub length_bound : Mealy → List ℕ → ℕ
length_bound M w = (M.n + 1) * block_bound M w + M.n * M.k * (M.n * block_bound M w + 1)
