-- What writing to a stream answers (§4.4: an answer that the specification leaves free).
use Rattle.std.specs.Prelude.{ℕ, ◌≡◌, Bool, true, List, length}

-- whether all bytes were written: true where there are none, since then nothing is left to write. Otherwise the answer
-- is free: std's `write` says only that it takes no more bytes than it is given
pub record WrittenAll (bytes : List ℕ) (r : Bool) : Type 0 where
  pub none : length bytes ≡ 0 → r ≡ true
