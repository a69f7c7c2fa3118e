-- The search by distances, over plain variables: the first step to a state at a distance, and what distances say of
-- paths. Assumes nothing.
use Prim.Native.Nat.{ℕ, suc, ◌+◌, ◌*◌, ◌≤◌, ◌<◌}
use mathlib.Core.Path.{◌≡◌, refl, sym, ◌∙◌}
use mathlib.Core.List.{List}
use mathlib.Core.Option.{none, some}
use mathlib.Core.Logic.{inl, inr}
use native.Mathlib.Omega.{arith}
use lib.ListN.{get_or}
use borrow.Author.Count.{below_more}
use Rattle.std.specs.Prelude.{Option, Some, None}
use Rattle.std.specs.Option.{option_eq}
use Rattle.std.proofs.Math.Dec.{eqb}
use Rattle.std.proofs.lemmas.Bool.{eqb-false}
use Rattle.std.proofs.lemmas.List.{get_or_past}
use mathlib.Core.Bool.{false}
use Rattle.facts.specs.FirstOf.{some_none}
use Rattle.facts.specs.Numbers.{less_or_not}
use Rattle.machine.specs.Machine.{Mealy}
use Rattle.build.specs.Transfer.{first_path}
use Rattle.build.specs.Transfer.Paths.{path_state, some_path}
use Rattle.build.specs.Distances.{FirstStep, Widened, Distance, Distances}

-- ---- the first step
-- what the loop over the commands keeps: no command before c leads there
abbrev pub Passing : List ℕ → ℕ → List (Option ℕ) → ℕ → ℕ → ℕ → Type 0
Passing next k distance s d c =
    (x : ℕ) → x < c → get_or distance (get_or next (s * k + x) 0) None ≡ Some d → ⊥

module _ (next : List ℕ) (k : ℕ) (distance : List (Option ℕ)) (s d : ℕ) where
  -- one command more
  pub passing_on : {c t : ℕ} → Passing next k distance s d c → t ≡ get_or next (s * k + c) 0
      → (get_or distance t None ≡ Some d → ⊥) → Passing next k distance s d (c + 1)
  passing_on {c} {t} h te o =
      below_more (λ x. get_or distance (get_or next (s * k + x) 0) None ≡ Some d → ⊥) c h (λ w. o (rw te w))

  -- the command is found
  pub passing_found : {c t : ℕ} → c < k → Passing next k distance s d c → t ≡ get_or next (s * k + c) 0
      → t < 256 → get_or distance t None ≡ Some d → FirstStep next k distance s d c
  passing_found {c} {t} l h te small de = record {
    few = omega arith;
    passed = h;
    byte = λ _. rw (← te) small;
    found = λ _. rw (← te) de;
  }

-- what the comparison with a distance says where it fails
pub not_reached : (o : Option ℕ) {d : ℕ} → option_eq eqb o (Some d) ≡ false → o ≡ Some d → ⊥
not_reached None e z = cc
not_reached (Some x) {d} e z = eqb-false x d e cc

-- ---- a state's distance after a round, where there was none
module _ {next : List ℕ} {k : ℕ} {distance : List (Option ℕ)} {s d r : ℕ} (h : FirstStep next k distance s d r)
    (z : get_or distance s None ≡ None) where
  -- a command leads to the distance
  pub widened_reached : r < k → Widened next k distance d s (Some (d + 1))
  widened_reached l = Widened.reached r l z (h.found l) refl

-- ---- distances and paths
-- what has a distance is a byte
pub inside : {M : Mealy} {b d x m : ℕ} {distance : List (Option ℕ)} → Distances M b d distance
    → get_or distance x None ≡ Some m → x < 256
inside {x = x} {m = m} {distance = distance} table e = elim (less_or_not x 256) [
  | inl l ↦ l
  | inr l ↦ (let z : None ≡ Some m = sym (get_or_past distance x None (omega (arith, table.long))) ∙ e in cc)
]

module _ (M : Mealy) (b d : ℕ) where
  -- a path of v commands, and none shorter
  pub record Nearest (s v : ℕ) : Type 0 where
    pub string : List ℕ
    pub low : v ≤ d
    pub found : first_path M b v s ≡ some string
    pub least : (m : ℕ) → m < v → first_path M b m s ≡ none

  -- a distance is that of a path
  pub nearest : {s m : ℕ} {v : Option ℕ} → Distance M b d s v → v ≡ Some m → Nearest s m
  nearest {s} {m} (Distance.near n t z l p q) e =
      let same : n ≡ m = cc in
      rw (← same) (record { string = t; low = l; found = p; least = q })
  nearest (Distance.beyond z h) e = cc

  -- where there is none there is no path
  pub none_near : {s : ℕ} {v : Option ℕ} → Distance M b d s v → v ≡ None → (m : ℕ) → m ≤ d → first_path M b m s ≡ none
  none_near (Distance.near n t z l p q) e = cc
  none_near (Distance.beyond z h) e = h

  -- where there is a path the distance is that of a path no longer
  path_nearest : {s m : ℕ} {v : Option ℕ} {t : List ℕ} → Distance M b d s v → first_path M b m s ≡ some t → m ≤ d
      → (n : ℕ) × (v ≡ Some n) × (n ≤ m) × Nearest s n
  path_nearest {s} {m} (Distance.near n t z l p q) e k =
      let o : m < n → ⊥ = λ y. some_none e (q m y) in
      (n, z, omega arith, record { string = t; low = l; found = p; least = q })
  path_nearest {s} {m} (Distance.beyond z h) e k = absurd (some_none e (h m k))

  module _ (few : M.n ≤ 255) {distance : List (Option ℕ)} (table : Distances M b d distance) where
    -- where no path of at most m commands leads from s, but one of m commands from the next state,
    -- that state's distance is m
    pub exact : (m s c : ℕ) {u : List ℕ} → m ≤ d → s < M.n → c < M.k → ((i : ℕ) → i ≤ m → first_path M b i s ≡ none)
        → first_path M b m (M.next s c) ≡ some u → get_or distance (M.next s c) None ≡ Some m
    exact m s c {u} ml sl cl none_here e =
        let inside = path_state M b m (M.next s c) e in
        let r = path_nearest (table.at (M.next s c) (omega arith)) e ml in
        let longer : r.0 < m → ⊥ = λ y.
        some_none (some_path M b r.0 s c sl cl r.3.found).1 (none_here (suc r.0) y) in
        let same : r.0 ≡ m = omega (arith, r.2) in
        rw same at r.1
