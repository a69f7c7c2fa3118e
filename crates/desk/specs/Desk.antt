-- The desk (§13): what it orders, of a machine, a word and the list of all answers so far. `Ordered` says it and
-- `order_of` computes it; Desk.Agreement shows that both agree, by the laws of Desk.Laws. Desk.Ends has those of ends,
-- Desk.NoAnswer those of the byte for no answer.
use Rattle.std.specs.Prelude.{ℕ, ◌-◌, ◌≤◌, ◌<◌, ◌≡◌, Bool, true, false, cond, List, [], ◌++◌, ltb, length, get_or}
use Rattle.std.specs.Prelude.{take}
use Rattle.std.proofs.Math.Option
use Rattle.std.proofs.Math.Option.{Option, none, some}
use Rattle.facts.specs.Lists.{same}
use Rattle.facts.specs.CommonPrefix.{agreed}
use Rattle.facts.specs.FirstOf.{guard, first_of}
use Rattle.machine.specs.Machine.{Mealy, run, answers}
use Rattle.build.specs.Transfer.{IsTransfer, transfer}
use Rattle.desk.specs.declared.desk.Order.{Order}
use Rattle.desk.specs.declared.desk.Order.TheVariants.{Command, Home, Stranger}
use Rattle.desk.specs.declared.desk.Phase.{Phase}
use Rattle.desk.specs.declared.desk.Phase.TheVariants.{Reading, Driving, Home as HomePhase}
use Rattle.desk.specs.declared.desk.Phase.TheVariants.{Stranger as StrangerPhase}
pub mod Laws
pub mod Agreement
pub mod Ends
pub mod NoAnswer

-- ---- as the specification says it
-- the commands for a unit that began in state s (§13.1): the word, and the transfer from the state to which the word
-- leads from s to the start. In the literature, a distinguishing sequence and a transfer sequence to the initial state
pub record Course (M : Mealy) (w : List ℕ) (s : ℕ) (xs : List ℕ) : Type 0 where
  pub state : s < M.n
  pub homeward : List ℕ
  pub drives : IsTransfer M (run M s w) M.start homeward
  pub commands : xs ≡ w ++ homeward

-- the answers before place p are those of state s to these commands
abbrev pub RightFrom : Mealy → ℕ → List ℕ → List ℕ → ℕ → Type 0
RightFrom M s xs ys p = (i : ℕ) → i < p → get_or (answers M s xs) i 0 ≡ get_or ys i 0

-- why the unit is a stranger at answer p (§13.1)
pub data Strange (M : Mealy) (w ys : List ℕ) (p : ℕ) : Type 0 where
  -- no state gives these answers to the word, and p is the number of its last answer
  no_state : length w ≤ length ys → p ≡ length w - 1
      → ((s : ℕ) → s < M.n → answers M s w ≡ take (length w) ys → ⊥) → Strange M w ys p
  -- one does, and p is the number of the first answer to the transfer that is not that state's
  differing : (s : ℕ) (xs : List ℕ) → Course M w s xs → length w ≤ p → p < length ys → p < length xs
      → RightFrom M s xs ys p → (get_or (answers M s xs) p 0 ≡ get_or ys p 0 → ⊥) → Strange M w ys p

-- what the desk orders after the answers ys (§13.1)
pub data Ordered (M : Mealy) (w ys : List ℕ) : Order → Type 0 where
  -- as long as not all of the word is answered, its next command
  word_next : {c : ℕ} → length ys < length w → c ≡ get_or w (length ys) 0 → Ordered M w ys (Command c)
  -- then, as long as all answers are right and the course is not at its end, the transfer's next command
  transfer_next : {c : ℕ} (s : ℕ) (xs : List ℕ) → Course M w s xs → length w ≤ length ys → length ys < length xs
      → RightFrom M s xs ys (length ys) → c ≡ get_or xs (length ys) 0 → Ordered M w ys (Command c)
  -- at its end home, with the number of its commands
  home : {n : ℕ} (s : ℕ) (xs : List ℕ) → Course M w s xs → length xs ≤ length ys → RightFrom M s xs ys (length xs)
      → n ≡ length xs → Ordered M w ys (Home n)
  -- stranger, with the number of the answer
  strange : {p : ℕ} → Strange M w ys p → Ordered M w ys (Stranger p)

-- ---- computed
-- the least of the states below m that gives these answers to the word, if one does
unfoldable pub first_state : Mealy → List ℕ → List ℕ → ℕ → Option ℕ
first_state M w ys m = first_of m (λ s. guard (same (answers M s w) ys) (some s))

-- the state that gives the first of these answers to the word: the word separates, so there is at most one
unfoldable pub began_in : Mealy → List ℕ → List ℕ → Option ℕ
began_in M w ys = first_state M w (take (length w) ys) M.n

-- the commands for a unit that began in s
unfoldable pub course : Mealy → List ℕ → ℕ → List ℕ
course M w s = w ++ Option.get_or (transfer M (run M s w) M.start) []

-- what is ordered of these commands, by how many answers from the front are right
unfoldable pub order_at : List ℕ → List ℕ → ℕ → Order
order_at xs ys right =
    cond (ltb right (length xs)) (cond (ltb right (length ys)) (Stranger right) (Command (get_or xs right 0)))
    (Home (length xs))

-- what is ordered once the word is answered, by the state in which the unit began
unfoldable pub order_from : Mealy → List ℕ → List ℕ → Option ℕ → Order
order_from M w ys none = Stranger (length w - 1)
order_from M w ys (some s) = order_at (course M w s) ys (agreed (answers M s (course M w s)) ys)

-- what the desk orders after the answers ys (§13.1)
unfoldable pub order_of : Mealy → List ℕ → List ℕ → Order
order_of M w ys = cond (ltb (length ys) (length w)) (Command (get_or w (length ys) 0)) (order_from M w ys (began_in M w ys))

-- whether an order is an end
abbrev pub is_end : Order → Bool
is_end (Command c) = false
is_end (Home n) = true
is_end (Stranger p) = true

-- ---- the phase, which says whether the desk reads or drives (§13.2)
-- where a unit that began in this state is after so many commands of its course
unfoldable pub state_after : Mealy → List ℕ → ℕ → Option ℕ → ℕ
state_after M w p none = 0
state_after M w p (some s) = run M s (take p (course M w s))

-- the phase of an order
unfoldable pub phase_for : Mealy → List ℕ → List ℕ → Order → Phase
phase_for M w ys (Command c) =
    cond (ltb (length ys) (length w)) (Reading (length ys)) (Driving (state_after M w (length ys) (began_in M w ys)))
phase_for M w ys (Home n) = HomePhase n
phase_for M w ys (Stranger p) = StrangerPhase p

-- the phase after the answers ys: reading with the position in the word, driving with the state reached, or an end
unfoldable pub phase_of : Mealy → List ℕ → List ℕ → Phase
phase_of M w ys = phase_for M w ys (order_of M w ys)
