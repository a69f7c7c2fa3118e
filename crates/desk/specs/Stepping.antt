-- What the parts of a step promise. Nothing here has to be believed: the contract of `step` does not name it.
use Rattle.std.specs.Prelude.{ℕ, ◌+◌, ◌≤◌, ◌<◌, ◌≡◌, List, [], ◌∷◌, ◌++◌, get_or, take}
use Rattle.std.proofs.Math.Option.{none, some}
use Rattle.machine.specs.Limits.{most_word}
use Rattle.machine.specs.Machine.{run, meaning}
use Rattle.build.specs.Transfer.{transfer}
use Rattle.desk.specs.declared.desk.Desk.{Desk}
use Rattle.desk.specs.declared.desk.Order.TheVariants.{Command, Home, Stranger}
use Rattle.desk.specs.declared.desk.Phase.{Phase}
use Rattle.desk.specs.declared.desk.Phase.TheVariants.{Reading, Driving, Home as HomePhase}
use Rattle.desk.specs.declared.desk.Phase.TheVariants.{Stranger as StrangerPhase}
use Rattle.desk.specs.declared.stepping.Stepped.{Stepped}
use Rattle.desk.specs.Desk.{first_state}

-- a desk with the machine and the word of another
abbrev pub desk_with : Desk → List ℕ → ℕ → ℕ → Phase → Desk
desk_with d heard count sent phase = record {
  machine = d.machine;
  word = d.word;
  size = d.size;
  heard = heard;
  count = count;
  sent = sent;
  phase = phase;
}

-- machine and word of a desk, as step leaves them
pub record Keeps (d e : Desk) : Type 0 where
  pub machine : e.machine ≡ d.machine
  pub size : e.size ≡ d.size
  pub word : e.word ≡ d.word

-- the desk with this end
pub record AtHome (d : Desk) (n : ℕ) (r : Stepped) : Type 0 where
  pub order : r.order ≡ Home n
  pub phase : r.desk.phase ≡ HomePhase n
  pub kept : Keeps d r.desk

pub record AtStranger (d : Desk) (p : ℕ) (r : Stepped) : Type 0 where
  pub order : r.order ≡ Stranger p
  pub phase : r.desk.phase ≡ StrangerPhase p
  pub kept : Keeps d r.desk

-- the desk drives from a state, n answers being in, and sends a command
pub record Sends (d : Desk) (state n c : ℕ) (r : Stepped) : Type 0 where
  pub order : r.order ≡ Command c
  pub phase : r.desk.phase ≡ Driving state
  pub count : r.desk.count ≡ n
  pub sent : r.desk.sent ≡ c
  pub kept : Keeps d r.desk

-- the unit has come to a state, n answers being in: it is at home, or the transfer goes on
pub record Arrives (d : Desk) (state n : ℕ) (r : Stepped) : Type 0 where
  pub home : state ≡ (meaning d.machine).start → AtHome d n r
  pub sends : (c : ℕ) (u : List ℕ) → transfer (meaning d.machine) state (meaning d.machine).start ≡ some (c ∷ u)
      → Sends d state n c r

-- the answer to a command of the transfer, sent in a state
pub record Drives (d : Desk) (state y : ℕ) (r : Stepped) : Type 0 where
  pub differs : ((meaning d.machine).answer state d.sent ≡ y → ⊥) → AtStranger d d.count r
  pub arrives : (meaning d.machine).answer state d.sent ≡ y → d.count + 1 < 256
      → Arrives d ((meaning d.machine).next state d.sent) (d.count + 1) r

-- the word in a desk
abbrev pub word_of : Desk → List ℕ
word_of d = take d.size d.word

-- the next command of the word is sent
pub record Reads (d : Desk) (position y : ℕ) (r : Stepped) : Type 0 where
  pub order : r.order ≡ Command (get_or d.word (position + 1) 0)
  pub phase : r.desk.phase ≡ Reading (position + 1)
  pub heard : take (position + 1) r.desk.heard ≡ take position d.heard ++ (y ∷ [])
  pub count : r.desk.count ≡ position + 1
  pub sent : r.desk.sent ≡ get_or d.word (position + 1) 0
  pub kept : Keeps d r.desk

-- the answer to the word's last command: the state is found, or there is none
pub record Finds (d : Desk) (position : ℕ) (ys : List ℕ) (r : Stepped) : Type 0 where
  pub missing : first_state (meaning d.machine) (word_of d) ys (meaning d.machine).n ≡ none → AtStranger d position
      r
  pub found : (s : ℕ) → first_state (meaning d.machine) (word_of d) ys (meaning d.machine).n ≡ some s
      → Arrives d (run (meaning d.machine) s (word_of d)) (position + 1) r

-- the answer to a command of the word
pub record Hears (d : Desk) (position y : ℕ) (r : Stepped) : Type 0 where
  pub reads : position + 1 < d.size → d.size ≤ most_word → Reads d position y r
  pub finds : position + 1 ≡ d.size → d.size ≤ most_word
      → Finds d position (take position d.heard ++ (y ∷ [])) r
