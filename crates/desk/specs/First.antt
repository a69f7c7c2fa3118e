-- What the desk begins with (§13): its first command, or a refusal.
use Rattle.std.specs.Prelude.{ℕ, Result, Ok}
use Rattle.sheet.specs.declared.check.Refusal.{Refusal}

abbrev pub First : Type 0
First = Result ℕ Refusal

pattern abbrev pub Command : ℕ → First
Command command = Ok command
