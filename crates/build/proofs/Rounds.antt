-- A round of the search: the states at most d + 1 commands away from those at most d away, and the rounds from the
-- first. Assumes nothing.
use Prim.Native.Nat.{ℕ, suc, ◌+◌, ◌*◌, ◌≤◌, ◌<◌}
use mathlib.Core.Path.{◌≡◌, refl, sym, ap, ◌∙◌}
use mathlib.Core.List.{List, []}
use mathlib.Core.Option.{none}
use mathlib.Core.Logic.{inl, inr}
use native.Mathlib.Omega.{arith}
use native.Mathlib.Numerals.{add-one}
use lib.ListN.{length, get_or, set, replicate, length-set, length-replicate, get_or-replicate}
use lib.Seq.{get_or-set_same, get_or-set_other}
use borrow.Author.Count.{below_more}
use Rattle.std.specs.Prelude.{Option, Some, None}
use Rattle.facts.specs.Numbers.{equal_or_not, less_or_not}
use Rattle.facts.specs.FirstOf.{nothing, value, seen}
use Rattle.machine.specs.declared.machine.Machine.{Machine}
use Rattle.machine.specs.Machine.{Mealy, meaning}
use Rattle.machine.specs.Machine.Laws.{meaning_states, meaning_commands, tabled_cells}
use Rattle.build.specs.Transfer.{first_path}
use Rattle.build.specs.Transfer.Paths.{path_zero, path_here, path_state, path_outside, some_path, none_path}
use Rattle.build.specs.Distances.{Widened, Distance, Distances}
use Rattle.build.proofs.Searching.{inside, nearest, none_near, exact}

-- ---- a table with one cell stored
module _ (P : ℕ → Option ℕ → Type 0) (table : List (Option ℕ)) (i : ℕ) (v : Option ℕ) (l : i < length table) where
  -- a property of the cells at other places, and of the one that is stored
  set_cell : ((j : ℕ) → (j ≡ i → ⊥) → P j (get_or table j None)) → P i v → (j : ℕ)
      → P j (get_or (set table i v) j None)
  set_cell others here j = elim (equal_or_not j i) [
    | inl e ↦ rw (e, get_or-set_same table i v None l) here
    | inr n ↦ rw (get_or-set_other table i j v None n) (others j n)
  ]

  -- a property of the cells before i, and one more
  set_more : ((j : ℕ) → j < i → P j (get_or table j None)) → P i v → (j : ℕ) → j < i + 1
      → P j (get_or (set table i v) j None)
  set_more before here =
      below_more (λ j. P j (get_or (set table i v) j None)) i
      (λ j k. rw (get_or-set_other table i j v None (λ e. omega arith)) (before j k))
      (rw (get_or-set_same table i v None l) here)

-- ---- the loop over the states
-- the first s states are done, the others as before
pub record Widening (next : List ℕ) (k : ℕ) (before : List (Option ℕ)) (d : ℕ) (distance : List (Option ℕ))
    (s : ℕ) : Type 0 where
  pub long : length distance ≡ 256
  pub done : (x : ℕ) → x < s → Widened next k before d x (get_or distance x None)
  pub later : (x : ℕ) → s ≤ x → get_or distance x None ≡ get_or before x None

-- the states at distance d are those before the round, whatever it did with them
widened_same : {next : List ℕ} {k : ℕ} {before : List (Option ℕ)} {d x : ℕ} {w : Option ℕ}
    → Widened next k before d x w
    → (w ≡ Some d → get_or before x None ≡ Some d) × (get_or before x None ≡ Some d → w ≡ Some d)
widened_same (Widened.kept o e) = (λ q. cc, λ q. cc)
widened_same {d = d} (Widened.reached c cl z e w) =
    (λ q. let y : d + 1 ≡ d = cc in absurd (omega arith), λ q. cc)
widened_same (Widened.still z h e) = (λ q. cc, λ q. cc)

module _ {next : List ℕ} {k : ℕ} {before : List (Option ℕ)} {d : ℕ} where
  same_at : {distance : List (Option ℕ)} {s : ℕ} → Widening next k before d distance s → (x : ℕ)
      → (get_or distance x None ≡ Some d → get_or before x None ≡ Some d)
      × (get_or before x None ≡ Some d → get_or distance x None ≡ Some d)
  same_at {distance} {s} h x = elim (less_or_not x s) [
    | inl k ↦ widened_same (h.done x k)
    | inr k ↦ (λ q. sym (h.later x k) ∙ q, λ q. h.later x k ∙ q)
  ]

  -- so a state's distance after the round does not depend on what the round did with other states
  widened_before : {distance : List (Option ℕ)} {s : ℕ} {w : Option ℕ} → Widening next k before d distance s
      → Widened next k distance d s w → Widened next k before d s w
  widened_before {distance} {s} {w} h (Widened.kept o e) =
      Widened.kept (sym (h.later s (omega arith)) ∙ o) e
  widened_before {distance} {s} {w} h (Widened.reached c cl z e we) =
      Widened.reached c cl (sym (h.later s (omega arith)) ∙ z) ((same_at h (get_or next (s * k + c) 0)).0 e) we
  widened_before {distance} {s} {w} h (Widened.still z p e) =
      Widened.still (sym (h.later s (omega arith)) ∙ z)
      (λ c cl q. p c cl ((same_at h (get_or next (s * k + c) 0)).1 q)) e

  -- one state more
  pub widening_on : {distance : List (Option ℕ)} {s : ℕ} {w : Option ℕ} → s < 256
      → Widening next k before d distance s → Widened next k distance d s w
      → Widening next k before d (set distance s w) (s + 1)
  widening_on {distance} {s} {w} sl h e =
      let inside : s < length distance = omega (arith, h.long) in
      record {
        long = length-set distance s w ∙ h.long;
        done = set_more (Widened next k before d) distance s w inside h.done (widened_before h e);
        later = λ x xl. get_or-set_other distance s x w None (λ y. omega arith) ∙ h.later x (omega arith);
      }

-- ---- what a round is for
module _ (M : Mealy) (b d : ℕ) (few : M.n ≤ 255) (next : List ℕ)
    (cells : (s c : ℕ) → M.next s c ≡ get_or next (s * M.k + c) 0)
    {distance : List (Option ℕ)} (table : Distances M b d distance) where
  -- no path of d + 1 commands leads from a state that is still unreached
  still_none : (s : ℕ) → s < M.n → ((m : ℕ) → m ≤ d → first_path M b m s ≡ none)
      → ((c : ℕ) → c < M.k → get_or distance (get_or next (s * M.k + c) 0) None ≡ Some d → ⊥)
      → first_path M b (suc d) s ≡ none
  still_none s sl lacks h = none_path M b d s (λ c cl. elim (seen (first_path M b d (M.next s c))) [
    | nothing e ↦ e
    | value t e ↦ absurd (h c cl (rw (← cells s c) (exact M b d few table d s c (omega arith) sl cl lacks e)))
  ])

  -- a state has its distance after the round
  widened_distance : (s : ℕ) → s < M.n → {w : Option ℕ} → Widened next M.k distance d s w → Distance M b (d + 1) s w
  widened_distance s sl {w} (Widened.kept {m = m} o e) =
      let near = nearest M b d (table.at s (omega arith)) o in
      Distance.near m near.string e (omega (arith, near.low)) near.found near.least
  widened_distance s sl {w} (Widened.reached c cl z e we) =
      let lacks = none_near M b d (table.at s (omega arith)) z in
      let near =
      nearest M b d (table.at (M.next s c) (rw (cells s c) (inside table e)))
      (ap (λ (x : ℕ). get_or distance x None) (cells s c) ∙ e) in
      let r = some_path M b d s c sl cl near.found in
      Distance.near (d + 1) r.0 we (omega arith) (rw add-one r.1) (λ m l. lacks m (omega arith))
  widened_distance s sl {w} (Widened.still z h e) =
      let lacks = none_near M b d (table.at s (omega arith)) z in
      Distance.beyond e
      (λ m l. below_more (λ i. first_path M b i s ≡ none) (d + 1) (λ i q. lacks i (omega arith))
      (rw add-one (still_none s sl lacks h)) m (omega arith))

  -- what is no state stays unreached
  outside_distance : (s : ℕ) (v : Option ℕ) → M.n ≤ s → Distance M b d s v → Distance M b (d + 1) s v
  outside_distance s v l (Distance.near m t z k p q) = let y = path_state M b m s p in absurd (omega arith)
  outside_distance s v l (Distance.beyond z h) = Distance.beyond z (λ m _. path_outside M b m s l)

  -- so all have
  round_distances : {after : List (Option ℕ)} {s : ℕ} → Widening next M.k distance d after s → s ≡ M.n
      → Distances M b (d + 1) after
  round_distances {after} {s} h l = record {
    long = h.long;
    at = λ x xl. elim (less_or_not x M.n) [
      | inl q ↦ widened_distance x q (h.done x (omega arith))
      | inr q ↦ rw (h.later x (omega arith))
          (outside_distance x (get_or distance x None) q (table.at x xl))
    ];
  }

-- the same, of the program's machine
pub widening_all : (m : Machine) {before : List (Option ℕ)} {d : ℕ} {distance : List (Option ℕ)} {s : ℕ} → m.n ≤ 255
    → Widening m.next m.k before d distance s → s ≡ m.n
    → (to : ℕ) → Distances (meaning m) to d before → Distances (meaning m) to (d + 1) distance
widening_all m {before} {d} {distance} {s} few h l to table =
    let states = meaning_states m in
    let wide : Widening m.next (meaning m).k before d distance s = rw (meaning_commands m) h in
    round_distances (meaning m) to d (omega arith) m.next (tabled_cells m.n m.k m.start m.next m.answer) table wide
    (omega arith)

-- ---- the first distances
module _ (M : Mealy) (b : ℕ) where
  -- from what is not b, or where b is no state, no path of no command leads to b
  away : (s : ℕ) → (s < M.n → s ≡ b → ⊥) → (m : ℕ) → m ≤ 0 → first_path M b m s ≡ none
  away s o m ml =
      let z : m ≡ 0 = omega arith in
      rw z (elim (seen (first_path M b 0 s)) [
        | nothing e ↦ e
        | value t e ↦ (let p = path_zero M b s e in absurd (o p.0 p.1))
      ])

  -- the state b is at distance 0 from itself, and the others are unreached
  first_state : b < M.n → M.n ≤ 255 → Distances M b 0 (set (replicate 256 None) b (Some 0))
  first_state k few =
      let l : List (Option ℕ) = replicate 256 None in
      let long : length l ≡ 256 = length-replicate {A = Option ℕ} 256 None in
      let inside : b < length l = omega arith in
      record {
        long = length-set l b (Some 0) ∙ long;
        at =
            set_cell (λ s x. s < 256 → Distance M b 0 s x) l b (Some 0) inside
            (λ s o sl. Distance.beyond (get_or-replicate 256 s None None sl) (away s (λ _ q. o q)))
            (λ _. Distance.near 0 [] refl (omega arith) (path_here M b b refl k) (λ m y. absurd (omega arith)));
      }

  -- where b is no state all are unreached
  no_state : M.n ≤ b → Distances M b 0 (replicate 256 None)
  no_state k = record {
    long = length-replicate {A = Option ℕ} 256 None;
    at = λ s sl. Distance.beyond (get_or-replicate 256 s None None sl) (away s (λ y q. omega arith));
  }

-- of the program's machine
module _ (m : Machine) (to : ℕ) {distance : List (Option ℕ)} where
  -- to a state
  pub distances_state : to < m.n → m.n ≤ 255 → distance ≡ set (replicate 256 None) to (Some 0)
      → Distances (meaning m) to 0 distance
  distances_state l few e =
      let states = meaning_states m in
      rw e (first_state (meaning m) to (rw states l) (rw states few))

  -- and to what is no state
  pub distances_none : m.n ≤ to → distance ≡ replicate 256 None → Distances (meaning m) to 0 distance
  distances_none l e = rw e (no_state (meaning m) to (rw (meaning_states m) l))
