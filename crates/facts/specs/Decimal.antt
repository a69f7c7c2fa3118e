-- Text as bytes (§8.1): quoted text, and numbers in decimal, written and read.
use Rattle.std.specs.Prelude.{ℕ, zero, suc, ◌+◌, ◌-◌, ◌*◌, ◌/◌, ◌%◌, Bool, true, false, cond, ◌&&◌, List, [], ◌∷◌}
use Rattle.std.specs.Prelude.{◌++◌, ltb, leb}
use Prim.Native.Char.{code}
use Prim.Native.String.{String, [] as none, ◌∷◌ as ◌then◌}
use Rattle.std.proofs.Math.Option.{Option, none as missing, some}
pub mod Laws

-- the bytes of a text in ASCII: the code of each character
abbrev pub bytes : String → List ℕ
bytes none = []
bytes (c then s) = code c ∷ bytes s

-- n as its only digit where the test holds; else the digits of n / 10, which front gives, and then the last digit
abbrev pub last_digit : Bool → ℕ → (ℕ → List ℕ) → List ℕ
last_digit true n front = (48 + n) ∷ []
last_digit false n front = front (n / 10) ++ ((48 + n % 10) ∷ [])

-- a number in decimal, of at most so many digits
unfoldable pub decimal_within : ℕ → ℕ → List ℕ
decimal_within zero n = []
decimal_within (suc most) n = last_digit (ltb n 10) n (decimal_within most)

-- a number in decimal (§8.1): the digits of n / 10, where there are any, then the last one. n + 1 only bounds the
-- recursion: decimal_digit and decimal_more, in Decimal.Laws, are the equations without it
unfoldable pub decimal : ℕ → List ℕ
decimal n = decimal_within (n + 1) n

-- ---- numbers read
-- whether a byte is a decimal digit
abbrev pub is_digit : ℕ → Bool
is_digit b = leb 48 b && leb b 57

-- whether all bytes are decimal digits
unfoldable pub all_digits : List ℕ → Bool
all_digits [] = true
all_digits (b ∷ bs) = is_digit b && all_digits bs

-- the value of decimal digits that follow digits of this value
unfoldable pub value_from : ℕ → List ℕ → ℕ
value_from value [] = value
value_from value (b ∷ bs) = value_from (10 * value + (b - 48)) bs

-- the number that decimal digits give, leading zeros allowed, where it is at most this; no digits give 0
unfoldable pub number_in : ℕ → List ℕ → Option ℕ
number_in most w = cond (all_digits w && leb (value_from 0 w) most) (some (value_from 0 w)) missing
