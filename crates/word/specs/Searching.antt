-- What the functions of the search promise each other. Nothing here has to be believed: the contract of `find_word`
-- does not name it.
use Rattle.std.specs.Prelude.{ℕ, ◌+◌, ◌-◌, ◌*◌, ◌/◌, ◌≤◌, ◌≡◌, Bool, true, false, not, List, ◌∷◌, length, get_or}
use Rattle.std.specs.Prelude.{Option, MatchOption}
use Rattle.std.specs.List.{list_all}
use Rattle.std.proofs.Math.Option as maybe
use Rattle.std.proofs.Math.Option.{none, some, map}
use Rattle.arrayvec.specs.ArrayVec.{ArrayVec}
use Rattle.machine.specs.Limits.{most_states}
use Rattle.word.specs.Search.{most_sought, alike, after, unmet, word_from}

-- how many pairs of different states there are at most
abbrev pub most_pairs : ℕ
most_pairs = most_states * (most_states - 1) / 2

-- what a column of a table holds for a state and a command
abbrev pub cells : ℕ → List ℕ → ℕ → ℕ → ℕ
cells k column s c = get_or column (s * k + c) 0

-- ---- pairs
-- whether no pair answers a command alike
abbrev pub none_alike : ℕ → List ℕ → List ℕ → ℕ → Bool
none_alike k answer ps c = list_all (λ p. not (alike (cells k answer) c p)) ps

-- what a command leaves of pairs, of a table's two columns
abbrev pub left_by : ℕ → List ℕ → List ℕ → List ℕ → ℕ → List ℕ
left_by k next answer ps c = after (cells k next) (cells k answer) ps c

-- two of them met, or none did and they are what is left
abbrev pub MovesOn : ℕ → List ℕ → List ℕ → List ℕ → ℕ → ArrayVec ℕ → Option (Unit {0})
    → Type 0
MovesOn k next answer ps c left r =
    MatchOption r (unmet (left_by k next answer ps c) ≡ false)
    (λ done. (left.items ≡ left_by k next answer ps c) × (unmet (left_by k next answer ps c) ≡ true))

-- ---- words
-- few pairs, and 1 to 6 commands
pub record BehindRequires (ps : List ℕ) (size : ℕ) : Type 0 where
  pub pairs_few : length ps ≤ most_pairs
  pub some : 1 ≤ size
  pub few : size ≤ most_sought

-- and none of the pairs has met
pub record FirstRequires (ps : List ℕ) (size : ℕ) : Type 0 where
  pub behind : BehindRequires ps size
  pub apart : unmet ps ≡ true

-- a word is given, or none where there is none
abbrev pub IsWord : maybe.Option (List ℕ) → Option (ArrayVec ℕ) → Type 0
IsWord sought r = MatchOption r (sought ≡ none) (λ w. sought ≡ some w.items)

-- the first word of m commands, of a table's two columns
abbrev pub word_on : ℕ → List ℕ → List ℕ → List ℕ → ℕ → maybe.Option (List ℕ)
word_on k next answer ps m = word_from k (cells k next) (cells k answer) m ps

-- the first of those, of m commands, m at least 1, that begin with this one
abbrev pub word_behind : ℕ → List ℕ → List ℕ → List ℕ → ℕ → ℕ → maybe.Option (List ℕ)
word_behind k next answer ps c m = map (◌∷◌ c) (word_on k next answer (left_by k next answer ps c) (m - 1))
