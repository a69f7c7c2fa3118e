-- What the program's search for transfers promises inside: distances to a state, a round over them, and the way down.
use Rattle.std.specs.Prelude.{ℕ, ◌+◌, ◌*◌, ◌≤◌, ◌<◌, ◌≡◌, List, [], ◌∷◌, length, get_or, Option, Some, None}
use Rattle.std.proofs.Math.Option.{none, some}
use Rattle.machine.specs.Machine.{Mealy}
use Rattle.build.specs.Transfer.{first_path}

-- the distance v of a state s to b, among strings of at most d commands; none where none leads there
pub data Distance (M : Mealy) (b d s : ℕ) (v : Option ℕ) : Type 0 where
  near : (m : ℕ) (t : List ℕ) → v ≡ Some m → m ≤ d → first_path M b m s ≡ some t
      → ((i : ℕ) → i < m → first_path M b i s ≡ none) → Distance M b d s v
  beyond : v ≡ None → ((m : ℕ) → m ≤ d → first_path M b m s ≡ none) → Distance M b d s v

-- the distances of all bytes
pub record Distances (M : Mealy) (b d : ℕ) (distance : List (Option ℕ)) : Type 0 where
  pub long : length distance ≡ 256
  pub at : (s : ℕ) → s < 256 → Distance M b d s (get_or distance s None)

-- the least command that leads from s to a state at a distance d, of a column of next states; k where none does
pub record FirstStep (next : List ℕ) (k : ℕ) (distance : List (Option ℕ)) (s d r : ℕ) : Type 0 where
  pub few : r ≤ k
  pub passed : (c : ℕ) → c < r → get_or distance (get_or next (s * k + c) 0) None ≡ Some d → ⊥
  pub byte : r < k → get_or next (s * k + r) 0 < 256
  pub found : r < k → get_or distance (get_or next (s * k + r) 0) None ≡ Some d

-- the distance w of a state s after a round, by a table of distances before: d + 1 where there was none and a command
-- leads to distance d
pub data Widened (next : List ℕ) (k : ℕ) (distance : List (Option ℕ)) (d s : ℕ) (w : Option ℕ) : Type 0 where
  kept : {m : ℕ} → get_or distance s None ≡ Some m → w ≡ Some m → Widened next k distance d s w
  reached : (c : ℕ) → c < k → get_or distance s None ≡ None
      → get_or distance (get_or next (s * k + c) 0) None ≡ Some d → w ≡ Some (d + 1) → Widened next k distance d s w
  still : get_or distance s None ≡ None
      → ((c : ℕ) → c < k → get_or distance (get_or next (s * k + c) 0) None ≡ Some d → ⊥) → w ≡ None
      → Widened next k distance d s w

-- the commands xs from a state s down m distances: the first step to the next lower distance, each time
pub data Descent (next : List ℕ) (k : ℕ) (distance : List (Option ℕ)) : ℕ → ℕ → List ℕ → Type 0 where
  there : {s : ℕ} → Descent next k distance s 0 []
  down : {s m c : ℕ} {xs : List ℕ} → FirstStep next k distance s m c
      → Descent next k distance (get_or next (s * k + c) 0) m xs → Descent next k distance s (m + 1) (c ∷ xs)

-- on the way down from a state there is one from which no command leads to the next lower distance
pub data Blocked (next : List ℕ) (k : ℕ) (distance : List (Option ℕ)) : ℕ → ℕ → Type 0 where
  here : {s m : ℕ} → FirstStep next k distance s m k → Blocked next k distance s (m + 1)
  below : {s m c : ℕ} → c < k → FirstStep next k distance s m c
      → Blocked next k distance (get_or next (s * k + c) 0) m → Blocked next k distance s (m + 1)
