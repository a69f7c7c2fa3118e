-- The unit on the bench (§9.1), and when its table is the machine's with the states renamed (§9.2). The laws stand in
-- Unit.Laws.
use Rattle.std.specs.Prelude.{ℕ, ◌≤◌, ◌<◌, ◌≡◌, List}
use Rattle.std.proofs.Common.{le_refl}
use Rattle.machine.specs.Machine.{Mealy, run, answers, Proper}
pub mod Laws

-- a unit for a machine of n states and k commands (§9.1), in the literature an implementation under test: m states, at
-- most n; the state u in which the run begins; and a next state, among the m, and an answer for each state and command.
-- That m is at least 1 follows from u; that an answer is a byte is not asked
pub record Unit (n k : ℕ) : Type 0 where
  pub m : ℕ
  pub few : m ≤ n
  pub u : ℕ
  pub u_low : u < m
  pub next : ℕ → ℕ → ℕ
  pub answer : ℕ → ℕ → ℕ
  pub stays : (x c : ℕ) → x < m → c < k → next x c < m

module _ (n k : ℕ) (U : Unit n k) where
  -- its table as a Mealy machine that starts in u
  abbrev pub table_of : Mealy
  table_of = record { n = U.m; k = k; start = U.u; next = U.next; answer = U.answer }

  -- the answers that it gives to a sequence, in u at its first command (§9.1)
  abbrev pub own_answers : List ℕ → List ℕ
  own_answers xs = answers table_of U.u xs

  -- the state in which the last command leaves it (§9.1)
  abbrev pub present_state : List ℕ → ℕ
  present_state xs = run table_of U.u xs

-- the machine itself as a unit, begun in any of its states
abbrev pub begun_in : (M : Mealy) → Proper M → (b : ℕ) → b < M.n → Unit M.n M.k
begun_in M h b l = record {
  m = M.n;
  few = le_refl M.n;
  u = b;
  u_low = l;
  next = M.next;
  answer = M.answer;
  stays = h.stays;
}

-- an isomorphism of the machine's table and the unit's (§9.2): it assigns a state of the unit to each state of the
-- machine. Of u and of a run it says nothing
pub record Isomorphism (M : Mealy) (U : Unit M.n M.k) : Type 0 where
  -- the state of the unit that is assigned to each state
  pub assigned : ℕ → ℕ
  pub into : (s : ℕ) → s < M.n → assigned s < U.m
  -- different states are assigned different states
  pub one_to_one : (s t : ℕ) → s < M.n → t < M.n → assigned s ≡ assigned t → s ≡ t
  -- every state of the unit is assigned
  pub onto : (x : ℕ) → x < U.m → (s : ℕ) × (s < M.n) × (assigned s ≡ x)
  -- for each entry the unit in the assigned state gives the entry's answer, and goes to the state that is assigned
  -- to the entry's next state
  pub answers_alike : (s c : ℕ) → s < M.n → c < M.k → U.answer (assigned s) c ≡ M.answer s c
  pub goes_alike : (s c : ℕ) → s < M.n → c < M.k → U.next (assigned s) c ≡ assigned (M.next s c)
