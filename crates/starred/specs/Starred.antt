-- The cases with a star and the next state that is none (§10.3): one collection, in the order of the table, of the
-- bytes of their sheets and the definitions of building, certifying, judging and judging's line. That all of them hold
-- is shown in Starred.Proofs. Where a room is lent, the case holds for every room that is large enough.
use Rattle.std.specs.Prelude.{ℕ, ◌≤◌, ◌≡◌, List, [], ◌∷◌, ◌++◌, length, drop}
use Rattle.facts.specs.Decimal.{bytes}
use Rattle.sheet.specs.Promise.{Written}
use Rattle.sheet.specs.Check.{Refused}
use Rattle.certify.specs.Answer.{Certified, Open}
use Rattle.judge.specs.Answer.{Answer, Pass, Wrong, Unfinished}
use Rattle.sheet.specs.Format.{standard}
use Rattle.sheet.specs.Joining.{joined, fresh}
use Rattle.machine.specs.Machine.{no_answer}
use Rattle.certify.specs.Certification.{certification}
use Rattle.certify.specs.Marks.Twin.{twin_table, single_table}
use Rattle.build.specs.Building.{building, buffer_after}
use Rattle.build.specs.Building.Twin.{unit_sheet, disconnected_table}
use Rattle.judge.specs.Judging.{judgement}
use Rattle.report.specs.Lines.{judge_line}
pub mod Proofs

-- ---- the sheets
-- the sheet of a machine's payload, a word and a sequence
abbrev pub sequence_sheet : List ℕ → List ℕ → List ℕ → List ℕ
sequence_sheet table word xs =
    joined (fresh standard.machine table ∷ fresh standard.word word ∷ fresh standard.sequence xs ∷ [])

-- the same with answers
abbrev pub answers_sheet : List ℕ → List ℕ → List ℕ → List ℕ → List ℕ
answers_sheet table word xs ys =
    joined
    (fresh standard.machine table
    ∷ fresh standard.word word
    ∷ fresh standard.sequence xs
    ∷ fresh standard.answers ys
    ∷ [])

-- the twin's where entry (0, 0) goes to 2, which is no state
abbrev pub no_state_table : List ℕ
no_state_table = 2 ∷ 2 ∷ 2 ∷ 0 ∷ 0 ∷ 5 ∷ 0 ∷ 1 ∷ 1 ∷ 5 ∷ []

-- the twin's built sequence
abbrev pub built_twin : List ℕ
built_twin = 0 ∷ 0 ∷ 0 ∷ 0 ∷ 0 ∷ 0 ∷ 1 ∷ 0 ∷ 0 ∷ 0 ∷ 1 ∷ 0 ∷ []

-- the twin's sheet with a sequence
abbrev pub twin_with : List ℕ → List ℕ
twin_with xs = sequence_sheet twin_table (0 ∷ []) xs

-- the twin's sheet with its built sequence and answers
abbrev pub twin_answered : List ℕ → List ℕ
twin_answered ys = answers_sheet twin_table (0 ∷ []) built_twin ys

-- what judging answers to a sheet, and the line for it
abbrev pub JudgedAs : ℕ → List ℕ → Answer → List ℕ → Type 0
JudgedAs room s a line = (judgement room s ≡ a) × (judge_line (judgement room s) ≡ line)

-- ---- the collection
-- the cases, each by what its service answers
pub record Starred : Type 0 where
  -- the twin as built, and certified
  pub built : (room : ℕ) → 12 ≤ room → building room (unit_sheet twin_table (0 ∷ [])) ≡ Written 12
  pub built_bytes : (buffer : List ℕ) → 12 ≤ length buffer
      → buffer_after (unit_sheet twin_table (0 ∷ [])) buffer ≡ built_twin ++ drop 12 buffer
  pub built_certified : (room : ℕ) → 13 ≤ room → certification room (twin_with built_twin) ≡ Certified 13
  -- two places that would recognise each other (§5.2), and one command more
  pub each_other : (room : ℕ) → 7 ≤ room → certification room (twin_with (0 ∷ 0 ∷ 1 ∷ 0 ∷ 1 ∷ 0 ∷ [])) ≡ Open 5 2
  pub longer : (room : ℕ) → 8 ≤ room → certification room (twin_with (0 ∷ 0 ∷ 1 ∷ 0 ∷ 1 ∷ 0 ∷ 0 ∷ [])) ≡ Certified 8
  -- short sequences that are open
  pub one : (room : ℕ) → 2 ≤ room → certification room (twin_with (0 ∷ [])) ≡ Open 1 1
  pub late : (room : ℕ) → 4 ≤ room → certification room (twin_with (1 ∷ 0 ∷ 0 ∷ [])) ≡ Open 2 0
  pub three : (room : ℕ) → 4 ≤ room → certification room (twin_with (0 ∷ 0 ∷ 0 ∷ [])) ≡ Open 4 2
  -- the built sequence with the right answers
  pub passes : (room : ℕ) → 13 ≤ room
      → JudgedAs room (twin_answered (0 ∷ 1 ∷ 0 ∷ 1 ∷ 0 ∷ 1 ∷ 5 ∷ 0 ∷ 1 ∷ 0 ∷ 5 ∷ 1 ∷ [])) (Pass 12 0)
      (bytes "PASS 12 end 0\n")
  -- the same with another answer at place 6, and with the first four answers
  pub wrong_at : (room : ℕ) → 13 ≤ room
      → JudgedAs room (twin_answered (0 ∷ 1 ∷ 0 ∷ 1 ∷ 0 ∷ 1 ∷ 6 ∷ 0 ∷ 1 ∷ 0 ∷ 5 ∷ 1 ∷ [])) (Wrong 6 5 6)
      (bytes "WRONG at 6 want 5 got 6\n")
  pub unfinished_run : (room : ℕ) → 13 ≤ room
      → JudgedAs room (twin_answered (0 ∷ 1 ∷ 0 ∷ 1 ∷ [])) (Unfinished 4) (bytes "UNFINISHED 4\n")
  -- thirteen answers, whatever they are
  pub too_many : (room : ℕ) → 13 ≤ room → (a b c d e f g h i j k l m : ℕ)
      → judgement room (twin_answered (a ∷ b ∷ c ∷ d ∷ e ∷ f ∷ g ∷ h ∷ i ∷ j ∷ k ∷ l ∷ m ∷ [])) ≡ Refused 10 41
  -- a word that does not separate
  pub no_separation_built : (room : ℕ) → building room (unit_sheet twin_table (1 ∷ [])) ≡ Refused 6 1
  pub no_separation_certified : (room : ℕ)
      → certification room (sequence_sheet twin_table (1 ∷ []) built_twin) ≡ Refused 6 1
  pub no_separation_judged : (room : ℕ)
      → judgement room (answers_sheet twin_table (1 ∷ []) built_twin (0 ∷ [])) ≡ Refused 6 1
  -- a next state that is none; the word's command and the answer may be any
  pub no_state_built : (room command : ℕ) → building room (unit_sheet no_state_table (command ∷ [])) ≡ Refused 4 8
  pub no_state_certified : (room command : ℕ)
      → certification room (sequence_sheet no_state_table (command ∷ []) built_twin) ≡ Refused 4 8
  pub no_state_judged : (room command answer : ℕ)
      → judgement room (answers_sheet no_state_table (command ∷ []) built_twin (answer ∷ [])) ≡ Refused 4 8
  -- a table that is not connected
  pub not_connected : (room : ℕ) → building room (unit_sheet disconnected_table (0 ∷ [])) ≡ Refused 8 1
  -- one state and one command, whatever the answer is but the byte for no answer
  pub single_built : (answer room : ℕ) → (answer ≡ no_answer → ⊥) → 4 ≤ room
      → building room (unit_sheet (single_table answer) (0 ∷ [])) ≡ Written 4
  pub single_bytes : (answer : ℕ) (buffer : List ℕ) → (answer ≡ no_answer → ⊥) → 4 ≤ length buffer
      → buffer_after (unit_sheet (single_table answer) (0 ∷ [])) buffer ≡ (0 ∷ 0 ∷ 0 ∷ 0 ∷ []) ++ drop 4 buffer
  pub single_pair : (answer room : ℕ) → (answer ≡ no_answer → ⊥) → 3 ≤ room
      → certification room (sequence_sheet (single_table answer) (0 ∷ []) (0 ∷ 0 ∷ [])) ≡ Certified 3
  pub single_short : (answer room : ℕ) → (answer ≡ no_answer → ⊥) → 2 ≤ room
      → certification room (sequence_sheet (single_table answer) (0 ∷ []) (0 ∷ [])) ≡ Open 1 1
