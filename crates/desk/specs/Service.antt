-- What `start` and `step` promise (§13.2), the dialogue that they make, and the ends of a desk. The theorems stand in
-- Service.Dialogue and Service.Homecoming.
use Rattle.std.specs.Prelude.{Err}
use Rattle.std.specs.Prelude.{ℕ, ◌<◌, ◌≡◌, List, [], ◌∷◌, ◌++◌, ◌⊎◌, length, get_or, take}
use Rattle.std.proofs.Common.{inl, inr}
use Rattle.std.proofs.Math.Option.{Option, none, some}
use Rattle.sheet.specs.Check.{first_cause, refused_or, Clear, Refused}
use Rattle.desk.specs.First.{First, Command as FirstCommand}
use Rattle.sheet.specs.declared.check.Values.{Values}
use Rattle.sheet.specs.Values.{refusal_values, Returns}
use Rattle.sheet.specs.Reader.{word_in}
use Rattle.machine.specs.Machine.{meaning}
use Rattle.machine.specs.Causes.{machine_in}
use Rattle.build.specs.Building.{connected_causes}
use Rattle.desk.specs.declared.desk.Desk.{Desk}
use Rattle.desk.specs.declared.desk.Order.{Order}
use Rattle.desk.specs.declared.desk.Order.TheVariants.{Command, Home, Stranger}
use Rattle.desk.specs.declared.desk.Phase.{Phase}
use Rattle.desk.specs.declared.desk.Phase.TheVariants.{Reading, Driving, Home as HomePhase}
use Rattle.desk.specs.declared.desk.Phase.TheVariants.{Stranger as StrangerPhase}
use Rattle.desk.specs.declared.starting.Started.{Started}
use Rattle.desk.specs.declared.stepping.Stepped.{Stepped}
use Rattle.desk.specs.Desk.{order_of, phase_of}
pub mod Dialogue
pub mod Homecoming

-- what the desk orders of a sheet after the answers ys
abbrev pub order_on : List ℕ → List ℕ → Order
order_on s ys = order_of (machine_in s) (word_in s) ys

-- the list of answers ys leads to this desk, on a sheet that is not refused. Machine, word and phase are then fixed;
-- the answers are kept while not all of the word is answered, their number and the last command while one is waited
-- for; otherwise these three are free
pub record Reached (s ys : List ℕ) (d : Desk) : Type 0 where
  pub clear : first_cause (connected_causes s) ≡ Clear
  pub machine : meaning d.machine ≡ machine_in s
  pub size : d.size ≡ length (word_in s)
  pub word : take d.size d.word ≡ word_in s
  pub phase : d.phase ≡ phase_of (machine_in s) (word_in s) ys
  pub heard : length ys < length (word_in s) → take (length ys) d.heard ≡ ys
  pub waits : (c : ℕ) → order_on s ys ≡ Command c → (d.count ≡ length ys) × (d.sent ≡ c)

-- ---- start
-- the answer of start (§13.2): the word's first command, or the first refusal of the causes of loading and 8
unfoldable pub starting : List ℕ → First
starting s = refused_or Refused (first_cause (connected_causes s)) (FirstCommand (get_or (word_in s) 0 0))

-- number and values of each answer of start (§4.4): the command, for which §8.3 has no class, or a refusal's
abbrev pub first_values : First → Values ⊎ ℕ
first_values (FirstCommand command) = inr command
first_values (Err r) = inl (refusal_values r.number r.place)

-- what start promises of a sheet: the specified answer, with its number and values, and where nothing is refused a desk
-- to which the empty list of answers leads. On a refusal the desk is free
pub record Starts (s : List ℕ) (r : Started) : Type 0 where
  pub first : Returns first_values (starting s) r.first
  pub desk : first_cause (connected_causes s) ≡ Clear → Reached s [] r.desk

-- ---- step
-- the end of a desk that has ended
abbrev pub end_of : Phase → Option Order
end_of (Reading position) = none
end_of (Driving state) = none
end_of (HomePhase n) = some (Home n)
end_of (StrangerPhase p) = some (Stranger p)

-- the values of each order (§4.4): the command; the number of commands sent; or the number of the answer
abbrev pub order_values : Order → ℕ ⊎ (ℕ ⊎ ℕ)
order_values (Command command) = inl command
order_values (Home n) = inr (inl n)
order_values (Stranger p) = inr (inr p)

-- what step promises of a desk and an answer y: for every sheet and every list of answers that leads to the desk, it
-- orders what is specified for that list and y, with its values, and that longer list leads to the new desk; a desk
-- that has ended repeats its end and stays as it is. Of a desk that has not ended and to which no list of answers
-- leads, on any sheet, order and new desk are free
pub record Steps (d : Desk) (y : ℕ) (r : Stepped) : Type 0 where
  pub order : (s ys : List ℕ) → Reached s ys d → Returns order_values (order_on s (ys ++ (y ∷ []))) r.order
  pub desk : (s ys : List ℕ) → Reached s ys d → Reached s (ys ++ (y ∷ [])) r.desk
  pub repeats : (e : Order) → end_of d.phase ≡ some e → (r.order ≡ e) × (r.desk ≡ d)
