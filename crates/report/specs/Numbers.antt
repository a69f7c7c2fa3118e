-- What reading a decimal number returns.
use Rattle.std.specs.Prelude.{ℕ, Option, Some, None}
use Rattle.std.proofs.Math.Option.{Option as Maybe, none, some}

-- the number in what `number_in` returns, where it found one
abbrev pub number_of : Option ℕ → Maybe ℕ
number_of None = none
number_of (Some n) = some n
