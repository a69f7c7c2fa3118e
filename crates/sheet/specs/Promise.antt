-- What a service promises that writes its result into a lent buffer (§4.3, §4.4): cause 9 (§4.2), the answer, and the
-- buffer afterwards; by the first of its other causes, which come before 9, and by the bytes that it writes. The laws
-- stand in Promise.Laws.
use Rattle.std.specs.Prelude.{ℕ, ◌≡◌, List, ◌⊎◌, ltb, length, Result, Ok, Err}
use Rattle.std.proofs.Common.{inl, inr}
use Rattle.sheet.specs.Check.{refusal◌with◌if◌, ◌else◌, refused_or, unless_refused, Check, Refused}
use Rattle.sheet.specs.declared.check.Refusal.{Refusal}
use Rattle.sheet.specs.declared.check.Values.{Values}
use Rattle.sheet.specs.Values.{refusal_values, Returns}
use Rattle.sheet.specs.Writing.{written}
pub mod Laws

-- what a service answers that writes its result into a lent buffer: the number of bytes, or a refusal
abbrev pub Answer : Type 0
Answer = Result ℕ Refusal

pattern abbrev pub Written : ℕ → Answer
Written size = Ok size

-- cause 9, room (§4.2): the room is smaller than the bytes that are needed; these are the place
unfoldable pub cause9 : ℕ → ℕ → Check
cause9 room bytes = refusal 9 with bytes if ltb room bytes

-- the first cause of a service that writes (§4.3): of its others, then 9, for the bytes that it writes
abbrev pub cause_to_write : Check → ℕ → List ℕ → Check
cause_to_write c room xs = c else cause9 room (length xs)

-- what it answers to a room: the number of bytes, or a refusal
unfoldable pub writing : Check → ℕ → List ℕ → Answer
writing c room xs = refused_or Refused (cause_to_write c room xs) (Written (length xs))

-- the lent buffer afterwards: it begins with the bytes, and the later ones keep their values; on a refusal it is as
-- before (§4.3)
unfoldable pub leaving : Check → List ℕ → List ℕ → List ℕ
leaving c xs before = unless_refused (cause_to_write c (length before) xs) (written xs before) before

-- number and values of each answer: the number of bytes, for which §8.3 has no class, or a refusal's
abbrev pub values_of : Answer → Values ⊎ ℕ
values_of (Written size) = inr size
values_of (Err r) = inl (refusal_values r.number r.place)

-- the promise (§4.4): the specified answer with its number and values, and every byte of the lent buffer
pub record Writes (c : Check) (xs before after : List ℕ) (a : Answer) : Type 0 where
  pub answer : Returns values_of (writing c (length before) xs) a
  pub buffer : after ≡ leaving c xs before
