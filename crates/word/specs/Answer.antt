-- What the search for a word answers (§14.2): the length of the word, nothing, or a refusal.
use Rattle.std.specs.Prelude.{ℕ, Option, Some, None, Result, Ok}
use Rattle.sheet.specs.declared.check.Refusal.{Refusal}

abbrev pub Answer : Type 0
Answer = Result (Option ℕ) Refusal

pattern abbrev pub Found : ℕ → Answer
Found size = Ok (Some size)

pattern abbrev pub Nothing : Answer
Nothing = Ok None
