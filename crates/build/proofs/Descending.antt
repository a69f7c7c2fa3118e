-- The way down the distances: what it collects is the path, so the search finds the transfer.
-- Assumes nothing.
use Prim.Native.Nat.{ℕ, ◌+◌, ◌*◌, ◌-◌, ◌≤◌, ◌<◌}
use mathlib.Core.Path.{◌≡◌, sym, ap, ap₂, ◌∙◌}
use mathlib.Core.List.{List, [], ◌∷◌, ◌++◌, append_assoc, append-nil}
use mathlib.Core.Option.{none, some, mem_unique}
use native.Mathlib.Omega.{arith}
use native.Mathlib.Numerals.{add-one}
use Rattle.std.specs.Prelude.{Option, Some, None, MatchOption}
use lib.ListN.{length, get_or, set, take, length-set}
use Rattle.facts.specs.Lists.{take_stored}
use Rattle.facts.specs.FirstOf.{some_none}
use Rattle.machine.specs.declared.machine.Machine.{Machine}
use Rattle.machine.specs.Machine.{Mealy, meaning}
use Rattle.machine.specs.Machine.Laws.{meaning_states, meaning_commands, tabled_cells}
use Rattle.build.specs.declared.transfers.Path.{Path}
use Rattle.build.specs.Transfer.{first_path, transfer, transfer_in}
use Rattle.build.specs.Transfer.Paths.{Step, path_zero, path_step, path_state, path_length}
use Rattle.build.specs.Transfer.Laws.{path_transfer, none_transfer}
use Rattle.build.specs.Distances.{FirstStep, Distances, Descent, there, down, Blocked, here, below}
use Rattle.build.proofs.Searching.{Nearest, nearest, none_near, exact}

-- ---- the loop down the distances
-- a way down from where it stands, behind the commands collected so far, is a way down from the beginning
pub record Descending (next : List ℕ) (k : ℕ) (distance : List (Option ℕ)) (from m : ℕ) (commands : List ℕ)
    (s i : ℕ) : Type 0 where
  pub few : i ≤ m
  pub long : length commands ≡ 256
  pub goes : (xs : List ℕ) → Descent next k distance s (m - i) xs
      → Descent next k distance from m (take i commands ++ xs)
  pub stops : Blocked next k distance s (m - i) → Blocked next k distance from m

module _ {next : List ℕ} {k : ℕ} {distance : List (Option ℕ)} {from m : ℕ} where
  -- one command more
  pub descending_on : {commands : List ℕ} {s i c t : ℕ} → m ≤ 255 → i < m
      → Descending next k distance from m commands s i → (c < k) × FirstStep next k distance s (m - 1 - i) c
      → t ≡ get_or next (s * k + c) 0 → Descending next k distance from m (set commands i c) t (i + 1)
  descending_on {commands} {s} {i} {c} {t} small l h f cell =
      let inside : i < length commands = omega (arith, h.long) in
      let lower : m - (i + 1) ≡ m - 1 - i = omega arith in
      let more : m - 1 - i + 1 ≡ m - i = omega arith in
      record {
        few = omega arith;
        long = length-set commands i c ∙ h.long;
        goes = λ xs d.
            rw (take_stored commands i c inside, append_assoc)
            (h.goes (c ∷ xs) (rw (← more) (down f.1 (rw (lower, cell) at d))));
        stops = λ b. h.stops (rw (← more) (below f.0 f.1 (rw (lower, cell) at b)));
      }

  -- no command leads on
  pub descending_stops : {commands : List ℕ} {s i : ℕ} → i < m → Descending next k distance from m commands s i
      → FirstStep next k distance s (m - 1 - i) k → Blocked next k distance from m
  descending_stops {commands} {s} {i} l h f =
      let more : m - 1 - i + 1 ≡ m - i = omega arith in
      h.stops (rw (← more) (here f))

  -- after the last
  pub descending_all : {commands : List ℕ} {s i : ℕ} → Descending next k distance from m commands s i → m ≤ i
      → Descent next k distance from m (take m commands)
  descending_all {commands} {s} {i} h l =
      let e : i ≡ m = omega (arith, h.few) in
      let z : m - i ≡ 0 = omega arith in
      rw (e, append-nil) at (h.goes [] (rw z there))

-- ---- what it collects
module _ (M : Mealy) (b d : ℕ) (few : M.n ≤ 255) (next : List ℕ)
    (cells : (s c : ℕ) → M.next s c ≡ get_or next (s * M.k + c) 0) {distance : List (Option ℕ)}
    (table : Distances M b d distance) where
  -- the first step is the path's first command
  first_command : (m s c : ℕ) {t : List ℕ} → FirstStep next M.k distance s m c → (st : Step M b m s t) → m ≤ d
      → ((i : ℕ) → i ≤ m → first_path M b i s ≡ none) → c ≡ st.command
  first_command m s c f st ml lacks =
      let e = exact M b d few table m s st.command ml st.inside st.low lacks st.found in
      let above : st.command < c → ⊥ = λ y.
      f.passed st.command y (ap (λ (x : ℕ). get_or distance x None) (sym (cells s st.command)) ∙ e) in
      let cl : c < M.k = omega (arith, st.low) in
      let near =
      nearest M b d (table.at (M.next s c) (rw (cells s c) (f.byte cl)))
      (ap (λ (x : ℕ). get_or distance x None) (cells s c) ∙ f.found cl) in
      let below : c < st.command → ⊥ = λ y. some_none near.found (st.passed c y) in
      omega arith

  -- a way down is the path
  descent_path : {s m : ℕ} {xs : List ℕ} → Descent next M.k distance s m xs → Nearest M b d s m
      → first_path M b m s ≡ some xs
  descent_path {s} there near = near.found ∙ ap some (path_zero M b s near.found).2
  descent_path {s} (down {m = m} {c = c} {xs = xs} f h) near =
      let ml : m ≤ d = omega (arith, near.low) in
      let lacks : (i : ℕ) → i ≤ m → first_path M b i s ≡ none = λ i l. near.least i (omega arith) in
      let st = path_step M b m s (rw add-one at near.found) in
      let e = first_command m s c f st ml lacks in
      let cl : c < M.k = omega (arith, st.low) in
      let Near-next = nearest M b d (table.at (get_or next (s * M.k + c) 0) (f.byte cl)) (f.found cl) in
      let rest = descent_path h Near-next in
      let found : first_path M b m (get_or next (s * M.k + c) 0) ≡ some st.rest =
      rw (e, ← cells s st.command) st.found in
      near.found ∙ ap some (st.string ∙ ap₂ ◌∷◌ (sym e) (mem_unique found rest))

  -- and no way down is blocked
  unblocked : {s m : ℕ} → Blocked next M.k distance s m → Nearest M b d s m → ⊥
  unblocked (here {s = s} {m = m} f) near =
      let st = path_step M b m s (rw add-one at near.found) in
      let e =
      exact M b d few table m s st.command (omega (arith, near.low)) st.inside st.low
      (λ i l. near.least i (omega arith)) st.found in
      f.passed st.command st.low (ap (λ (x : ℕ). get_or distance x None) (sym (cells s st.command)) ∙ e)
  unblocked (below {s = s} {c = c} cl f h) near =
      unblocked h (nearest M b d (table.at (get_or next (s * M.k + c) 0) (f.byte cl)) (f.found cl))

  -- ---- the answer of the search
  module _ (last : d ≡ M.n - 1) (s : ℕ) (sl : s < 256) where
    -- there is no transfer
    search_none : get_or distance s None ≡ None → transfer M s b ≡ none
    search_none z =
        let lacks = none_near M b d (table.at s sl) z in
        none_transfer M s b (λ m l. lacks m (omega arith))

    -- there is one, and this is it
    search_some : {m : ℕ} → get_or distance s None ≡ Some m → {xs : List ℕ} → Descent next M.k distance s m xs
        → transfer M s b ≡ some xs
    search_some {m} o {xs} h =
        let near = nearest M b d (table.at s sl) o in
        let p = descent_path h near in
        let e = path_length M b m s p in
        path_transfer M s b (record {
          few = omega (arith, near.low, path_state M b m s p);
          found = rw e p;
          passed = rw e near.least;
        })

    -- the way to it is not blocked
    search_on : {m : ℕ} → get_or distance s None ≡ Some m → Blocked next M.k distance s m → ⊥
    search_on o h = unblocked h (nearest M b d (table.at s sl) o)

-- the same, of the program's machine
module _ (m : Machine) (from to : ℕ) {distance : List (Option ℕ)} (few : m.n ≤ 255) (small : from < 256)
    (table : Distances (meaning m) to (m.n - 1) distance) where
  few_states : (meaning m).n ≤ 255
  few_states = rw (meaning_states m) few

  last : m.n - 1 ≡ (meaning m).n - 1
  last = rw (meaning_states m)

  cells : (s c : ℕ) → (meaning m).next s c ≡ get_or m.next (s * (meaning m).k + c) 0
  cells = tabled_cells m.n m.k m.start m.next m.answer

  -- where there is no distance the program answers that there is none
  pub answer_none : get_or distance from None ≡ None → none ≡ transfer (meaning m) from to
  answer_none z = sym (search_none (meaning m) to (m.n - 1) few_states m.next cells table last from small z)

  -- else it answers the commands of a way down, which is not blocked
  pub answer_some : {length : ℕ} → get_or distance from None ≡ Some length → (o : Option Path)
      → MatchOption o (Blocked m.next m.k distance from length)
      (λ p. Descent m.next m.k distance from length (take p.length p.commands))
      → transfer_in o ≡ transfer (meaning m) from to
  answer_some e None h =
      absurd (search_on (meaning m) to (m.n - 1) few_states m.next cells table last from small e
      (rw (meaning_commands m) h))
  answer_some e (Some p) h =
      sym (search_some (meaning m) to (m.n - 1) few_states m.next cells table last from small e
      (rw (meaning_commands m) h))
