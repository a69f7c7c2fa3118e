-- What the functions that follow the commands of a marked place promise each other. Nothing here has to be believed:
-- the service's contract does not name it.
use Rattle.std.specs.Prelude.{ℕ, ◌+◌, ◌<◌, ◌≡◌, Option, Some, None, List, length, get_or, set}
use Rattle.machine.specs.Machine.{Mealy, state_at}
use Rattle.certify.specs.declared.propagation.Pair.{Pair}
use Rattle.certify.specs.Marks.{Bits}
use Rattle.certify.specs.Folding.{Past, Folds}

-- a marked place is represented by its state's place, where there is one; root holds place + 1, 0 for none
pub data Restarted (root : List ℕ) (place state : ℕ) (next : Option Pair) : Type 0 where
  none : next ≡ None → Restarted root place state next
  from : (r : ℕ) → get_or root state 0 ≡ r + 1 → next ≡ Some (record { representative = r; place = place; state = state })
      → Restarted root place state next

-- two places with equal marks keep them; of two that differ, the one without gets its mark, and following goes on
-- from it
pub data Equalised (ms root : List ℕ) (pair : Pair) (ms' : List ℕ) (next : Option Pair) : Type 0 where
  on : ms' ≡ ms → next ≡ Some pair → Equalised ms root pair ms' next
  stop : ms' ≡ ms → next ≡ None → Equalised ms root pair ms' next
  first : (get_or ms pair.representative 0 ≡ get_or ms pair.place 0 → ⊥) → ms' ≡ set ms pair.representative 1
      → Restarted root pair.representative pair.state next → Equalised ms root pair ms' next
  second : (get_or ms pair.representative 0 ≡ get_or ms pair.place 0 → ⊥) → ms' ≡ set ms pair.place 1
      → Restarted root pair.place pair.state next → Equalised ms root pair ms' next

-- a command is followed from a place and from its representative, along an alternative v that has it, where there is
-- one
pub data Followed (M : Mealy) (xs ms alt root : List ℕ) (pair : Pair) (ms' : List ℕ)
    (next : Option Pair) : Type 0 where
  ends : ms' ≡ ms → next ≡ None → Followed M xs ms alt root pair ms' next
  steps : (v s' : ℕ) → pair.place < length xs → v < length xs → Past xs alt (get_or xs pair.place 0) pair.representative v
      → get_or xs v 0 ≡ get_or xs pair.place 0 → s' ≡ M.next pair.state (get_or xs pair.place 0)
      → Equalised ms root (record { representative = v + 1; place = pair.place + 1; state = s' }) ms' next
      → Followed M xs ms alt root pair ms' next

-- what is asked: tables that fold places, a mark of 0 or 1 for each place, and a marked place p of state s
pub record PropagateRequires (M : Mealy) (xs ms alt root : List ℕ) (p s : ℕ) : Type 0 where
  pub folds : Folds M xs ms alt root
  pub long : length ms ≡ length xs + 1
  pub bits : Bits ms
  pub marked : get_or ms p 0 ≡ 1
  pub state : s ≡ state_at M xs p
