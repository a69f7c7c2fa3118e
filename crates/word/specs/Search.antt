-- The search for a separating word (§14.1). `IsSought` says what is sought, and `search` computes it; Search.Laws shows
-- that both agree for a machine within its limits, by the laws of Search.Pairs. Search.Pruning has the law by which a
-- beginning is left.
use Rattle.std.specs.Prelude.{ℕ, zero, suc, ◌+◌, ◌*◌, ◌/◌, ◌%◌, Bool, true, false, not, ◌&&◌, List, [], ◌∷◌, ◌++◌}
use Rattle.std.specs.Prelude.{eqb}
use Rattle.std.proofs.Math.Option.{Option}
use Rattle.facts.specs.ByteOrder.{IsFirst}
use Rattle.facts.specs.FirstOf.{first_of}
use Rattle.facts.specs.FirstString.{first_string}
use Rattle.machine.specs.Machine.{Mealy, Commands, Separates}
pub mod Pairs
pub mod Pruning
pub mod Laws

-- the most commands of a word that is sought (§14.1)
abbrev pub most_sought : ℕ
most_sought = 6

-- ---- as the specification says it
-- a word of 1 to 6 commands that separates the states (§3.3, §14.1)
pub record Eligible (M : Mealy) (w : List ℕ) : Type 0 where
  pub commands : Commands most_sought M.k w
  pub separates : Separates M w

-- the word that is sought (§14.1): of the eligible ones the first of the shortest, in byte order
abbrev pub IsSought : Mealy → List ℕ → Type 0
IsSought M w = IsFirst (Eligible M) w

-- ---- computed, by the pairs of §14.2
-- two states as one number, the second below 256
abbrev pub pair_of : ℕ → ℕ → ℕ
pair_of s t = 256 * s + t

-- the first state of such a number
abbrev pub one : ℕ → ℕ
one p = p / 256

-- the second
abbrev pub other : ℕ → ℕ
other p = p % 256

-- the pairs of j with each state below m
unfoldable pub pairs_with : ℕ → ℕ → List ℕ
pairs_with j zero = []
pairs_with j (suc i) = pairs_with j i ++ (pair_of i j ∷ [])

-- the pairs of states i and j, i below j and j below n
unfoldable pub all_pairs : ℕ → List ℕ
all_pairs zero = []
all_pairs (suc j) = all_pairs j ++ pairs_with j j

-- an element more where a test holds
abbrev pub keep : Bool → ℕ → List ℕ → List ℕ
keep true p ps = p ∷ ps
keep false p ps = ps

-- whether the two states of a pair answer a command alike
abbrev pub alike : (ℕ → ℕ → ℕ) → ℕ → ℕ → Bool
alike answer c p = eqb (answer (one p) c) (answer (other p) c)

-- where a command leads the two states of a pair
abbrev pub moved : (ℕ → ℕ → ℕ) → ℕ → ℕ → ℕ
moved next c p = pair_of (next (one p) c) (next (other p) c)

-- the pairs whose states answer a command alike, each where the command leads it
unfoldable pub after : (ℕ → ℕ → ℕ) → (ℕ → ℕ → ℕ) → List ℕ → ℕ → List ℕ
after next answer [] c = []
after next answer (p ∷ ps) c = keep (alike answer c p) (moved next c p) (after next answer ps c)

-- whether no pair's two states are the same; in the literature those of such a pair have merged
unfoldable pub unmet : List ℕ → Bool
unmet [] = true
unmet (p ∷ ps) = not (eqb (one p) (other p)) && unmet ps

-- whether there is no pair
unfoldable pub is_empty : List ℕ → Bool
is_empty [] = true
is_empty (p ∷ ps) = false

-- the first word, in byte order, of m commands after which none of these pairs is left, and before whose end no two
-- states of a pair met
unfoldable pub word_from : ℕ → (ℕ → ℕ → ℕ) → (ℕ → ℕ → ℕ) → ℕ → List ℕ → Option (List ℕ)
word_from k next answer m ps = first_string k unmet (after next answer) is_empty m ps

-- the word that is sought (§14.1): the first of the least length, 1 to 6, that has one
unfoldable pub search : Mealy → Option (List ℕ)
search M = first_of most_sought (λ m. word_from M.k M.next M.answer (suc m) (all_pairs M.n))
