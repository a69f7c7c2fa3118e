-- Building: cause 8 (§4.2), the causes in order (§4.1), the answer and what is written (§6.4), and when building
-- succeeds (§6.5). The laws of cause 8 stand in Building.Connection, those of the service in Building.Service and, of
-- the built sequence, in proofs/BuildingService.antt; in Building.Twin the starred cases are computed.
use Rattle.std.specs.Prelude.{ℕ, ◌≤◌, ◌<◌, ◌≡◌, Bool, true, false, List, [], ◌∷◌, ◌++◌, length}
use Rattle.std.proofs.Math.Option.{Option, none, some}
use Rattle.sheet.specs.Check.{refusal◌with◌if◌, first_cause, first, Check, Clear}
use Rattle.sheet.specs.Promise.{cause_to_write, writing, leaving, Writes, Answer}
use Rattle.sheet.specs.declared.reader.Needs.{Needs}
use Rattle.sheet.specs.Reader.{word_in, word_record}
use Rattle.machine.specs.Machine.{Mealy, Separates}
use Rattle.machine.specs.Causes.{cause5, machine_in, machine_causes, load_causes}
use Rattle.build.specs.Transfer.{Leads}
use Rattle.build.specs.Sequence.{B, sequence}
pub mod Connection
pub mod Service
pub mod Twin

-- ---- causes
-- the kinds that building needs (§2.3), and the desk: the machine, and the word
abbrev pub build_needs : Needs
build_needs = record { word = true; sequence = false; answers = false }

-- whether there is no transfer
abbrev pub no_transfer : Option (List ℕ) → Bool
no_transfer none = true
no_transfer (some t) = false

-- not connected (§4.2): the lowest s that has no transfer B(s). That no command string leads there is a law:
-- refused_unconnected and unconnected_refused, in Building.Connection
unfoldable pub cause8 : Mealy → List ℕ → Check
cause8 M w = first M.n (λ s. refusal 8 with s if no_transfer (B M w s))

-- the causes of loading, then 8 (§4.1), of a service that needs a separating word and transfers
unfoldable pub connected_causes : List ℕ → List Check
connected_causes s = load_causes build_needs s ++ (cause8 (machine_in s) (word_in s) ∷ [])

-- ---- the service, which writes the sequence (§6.4): these causes come before 9 (§4.3)
-- its first cause, for a room
abbrev pub build_cause : ℕ → List ℕ → Check
build_cause room s = cause_to_write (first_cause (connected_causes s)) room (sequence (machine_in s) (word_in s))

-- what building answers to a sheet and a room: the length of the sequence, or a refusal
abbrev pub building : ℕ → List ℕ → Answer
building room s = writing (first_cause (connected_causes s)) room (sequence (machine_in s) (word_in s))

-- the lent buffer after building: it begins with the sequence; on a refusal it is as before (§4.3)
abbrev pub buffer_after : List ℕ → List ℕ → List ℕ
buffer_after s buffer = leaving (first_cause (connected_causes s)) (sequence (machine_in s) (word_in s)) buffer

-- what building promises of a sheet (§4.4)
abbrev pub Builds : List ℕ → List ℕ → List ℕ → Answer → Type 0
Builds s before after a =
    Writes (first_cause (connected_causes s)) (sequence (machine_in s) (word_in s)) before after a

-- ---- when building succeeds
-- strongly connected (§6.5): a command string, of any length, leads from each state to each state
abbrev pub StronglyConnected : Mealy → Type 0
StronglyConnected M = (a b : ℕ) → a < M.n → b < M.n → (u : List ℕ) × Leads M a b u

-- when building succeeds (§6.5): no cause of the machine and no 5 is present, the word separates, the table is strongly
-- connected, and there is room. It succeeds exactly then: built_buildable and buildable_built, in Building.Service
pub record Buildable (room : ℕ) (s : List ℕ) : Type 0 where
  pub machine : first_cause (machine_causes build_needs s) ≡ Clear
  pub word : cause5 (machine_in s).k (word_record s).start (word_in s) ≡ Clear
  pub separates : Separates (machine_in s) (word_in s)
  pub connected : StronglyConnected (machine_in s)
  pub fits : length (sequence (machine_in s) (word_in s)) ≤ room
