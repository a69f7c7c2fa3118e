-- What the functions that mark the places where the word stands promise each other. Nothing here has to be believed:
-- the service's contract does not name it.
use Rattle.std.specs.Prelude.{ℕ, ◌+◌, ◌≤◌, ◌<◌, ◌≡◌, List, ltb, eqb, length, get_or, bit_and}
use Rattle.std.specs.Int.{from_bool}
use Rattle.certify.specs.Marks.{mark}

-- the places before count are marked, and no other
pub record Begun (count : ℕ) (before after : List ℕ) : Type 0 where
  pub long : length after ≡ length before
  pub cells : (p : ℕ) → p < length before → get_or after p 0 ≡ mark (ltb p count)

-- of the places before count, those keep their mark that have the command c, further commands on
pub record Passed (xs : List ℕ) (further c count : ℕ) (before after : List ℕ) : Type 0 where
  pub long : length after ≡ length before
  pub cells : (p : ℕ) → p < count
      → get_or after p 0 ≡ bit_and (get_or before p 0) (from_bool (eqb (get_or xs (further + p) 0) c))
  pub rest : (p : ℕ) → count ≤ p → get_or after p 0 ≡ get_or before p 0
