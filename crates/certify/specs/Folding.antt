-- What the certifier's own functions promise each other about folding places and the tables for it. Nothing here has to
-- be believed: the service's contract does not name it.
use Rattle.std.specs.Prelude.{ℕ, ◌+◌, ◌<◌, ◌≡◌, List, length, get_or, set}
use Rattle.machine.specs.Machine.{Mealy, state_at}
use Rattle.certify.specs.Recognition.{Closure}
use Rattle.certify.specs.Marks.{Bits}

-- the marks of a list, as rule 1's places
abbrev pub MarkedIn : List ℕ → ℕ → Type 0
MarkedIn ms p = get_or ms p 0 ≡ 1

-- the closure of given marks under rule 2
abbrev pub From : Mealy → List ℕ → List ℕ → ℕ → Type 0
From M xs given = Closure xs (state_at M xs) (MarkedIn given)

-- a mark of 0 or 1 for each place, between the given ones and their closure
pub record Marking (M : Mealy) (xs given ms : List ℕ) : Type 0 where
  pub long : length ms ≡ length xs + 1
  pub bits : Bits ms
  pub above : (p : ℕ) → get_or given p 0 ≡ 1 → get_or ms p 0 ≡ 1
  pub sound : (p : ℕ) → get_or ms p 0 ≡ 1 → From M xs given p

-- a cell of 0 has become 1
pub record Risen (given ms : List ℕ) : Type 0 where
  pub place : ℕ
  pub was : get_or given place 0 ≡ 0
  pub is : get_or ms place 0 ≡ 1

-- two places that are one, or equally many equal commands after two places of one state in the closure
pub data Paired (M : Mealy) (xs given : List ℕ) : ℕ → ℕ → Type 0 where
  same : {a b : ℕ} → a ≡ b → Paired M xs given a b
  tops : {a b : ℕ} → From M xs given a → From M xs given b → state_at M xs a ≡ state_at M xs b → Paired M xs given a b
  step : {a b : ℕ} (p q : ℕ) → Paired M xs given p q → p < length xs → q < length xs → get_or xs p 0 ≡ get_or xs q 0
      → a ≡ p + 1 → b ≡ q + 1 → Paired M xs given a b

-- from r along the alternatives to v, past places with other commands than c; alt holds the next
-- alternative, 0 for none
pub data Past (xs alt : List ℕ) (c : ℕ) : ℕ → ℕ → Type 0 where
  here : {r v : ℕ} → r ≡ v → Past xs alt c r v
  past : {r v : ℕ} → (get_or xs r 0 ≡ c → ⊥) → (get_or alt r 0 ≡ 0 → ⊥) → Past xs alt c (get_or alt r 0) v → Past xs alt c r v

-- alternatives rise, and are places with a command
abbrev pub Rising : List ℕ → List ℕ → Type 0
Rising xs alt = (v : ℕ) → (get_or alt v 0 ≡ 0 → ⊥) → (v < get_or alt v 0) × (get_or alt v 0 < length xs)

-- the place where a chain of alternatives from r ends: it has the command c, or no alternative
pub record Reached (xs alt : List ℕ) (c r v : ℕ) : Type 0 where
  pub path : Past xs alt c r v
  pub inside : v < length xs
  pub last : (get_or xs v 0 ≡ c → ⊥) → get_or alt v 0 ≡ 0

-- as many states as a byte can name: the length of root
abbrev pub byte_states : ℕ
byte_states = 256

-- the place that represents state s, which becomes t where there is none yet; root holds place + 1, 0 for none
pub data Rooted (root : List ℕ) (s t : ℕ) (root' : List ℕ) (r : ℕ) : Type 0 where
  first : get_or root s 0 ≡ 0 → root' ≡ set root s (t + 1) → r ≡ t → Rooted root s t root' r
  again : get_or root s 0 ≡ r + 1 → root' ≡ root → Rooted root s t root' r

-- one further than the alternative of r that has t's command; t becomes the last one where there is none
pub data Advanced (xs alt : List ℕ) (r t : ℕ) (alt' : List ℕ) (cur : ℕ) : Type 0 where
  found : (v : ℕ) → Past xs alt (get_or xs t 0) r v → get_or xs v 0 ≡ get_or xs t 0 → alt' ≡ alt → cur ≡ v + 1
      → Advanced xs alt r t alt' cur
  added : (v : ℕ) → Past xs alt (get_or xs t 0) r v → (get_or xs v 0 ≡ get_or xs t 0 → ⊥) → get_or alt v 0 ≡ 0
      → alt' ≡ set alt v t → cur ≡ t + 1 → Advanced xs alt r t alt' cur

-- tables that fold places: alternatives are paired, and root holds for a state a place of it in the
-- closure, plus 1, or 0 for none
pub record Folds (M : Mealy) (xs given alt root : List ℕ) : Type 0 where
  pub links : (v : ℕ) → (get_or alt v 0 ≡ 0 → ⊥) → Paired M xs given v (get_or alt v 0)
  pub roots : (s r : ℕ) → get_or root s 0 ≡ r + 1 → (r < length xs) × (From M xs given r) × (state_at M xs r ≡ s)
