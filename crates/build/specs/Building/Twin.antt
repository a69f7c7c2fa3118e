-- The starred cases of building (§10.3), computed from the definitions, of the bytes of their sheets and for every room
-- that is large enough; the collection of all starred cases takes them from here. What certifying answers to the built
-- sequences comes from certify's Certification.Twin.
use Rattle.std.specs.Prelude.{ℕ, ◌≤◌, ◌≡◌, refl, List, [], ◌∷◌, ◌++◌, eqb, length, drop}
use Rattle.std.proofs.Common.{sym, ap, ap₂, ◌∙◌, ne_eqb}
use Rattle.std.proofs.Math.Option.{or_else}
use Rattle.facts.specs.FirstOf.{guard, first_of}
use Rattle.facts.specs.FirstString.{first_string}
use Rattle.sheet.specs.Check.{refusal◌with◌if◌, ◌else◌, first_cause, first, Check, Clear, Refused}
use Rattle.sheet.specs.Promise.{Written}
use Rattle.certify.specs.Answer.{Certified}
use Rattle.sheet.specs.Check.Laws.{absent, else_clear}
use Rattle.sheet.specs.Format.{record_at, end, role_of, cause1, cause2, cause_of, parse_step, parse_from, parse}
use Rattle.sheet.specs.Format.{parsed, of_kind, ◌or◌, find, standard}
use Rattle.sheet.specs.Reader.{sheet_causes, refusal_of, found_in, record_of, part, part_bytes, content, word_in}
use Rattle.sheet.specs.Writing.{header_of, written}
use Rattle.sheet.specs.Promise.Laws.{wrote, by_cause, outcome_writing, written_leaves}
use Rattle.sheet.specs.Joining.{joined, fresh}
use Rattle.machine.specs.House.{house_payload, house, house_word}
use Rattle.machine.specs.Machine.{no_answer, machine_of, run, answers}
use Rattle.machine.specs.Causes.{cause3, cause4, cause12, commands_cause, cause6, machine_in, table_causes}
use Rattle.machine.specs.Causes.{machine_causes, word_causes, load_causes}
use Rattle.certify.specs.Marks.Twin.{twin_table, twin, single_table, single}
use Rattle.certify.specs.Certification.{outcome}
use Rattle.certify.specs.Certification.Twin.{twin_built as twin_outcome, single_built as single_outcome}
use Rattle.build.specs.Transfer.{first_path, transfer}
use Rattle.build.specs.Sequence.{following, T, nth_state, first_blocks, opening, approach, test, state_tests, tests}
use Rattle.build.specs.Sequence.{sequence, length_bound}
use Rattle.build.specs.Building.{cause8, connected_causes, building, buffer_after}

-- ---- the sheets
-- that of a machine's payload and a word
abbrev pub unit_sheet : List ℕ → List ℕ → List ℕ
unit_sheet table word = joined (fresh standard.machine table ∷ fresh standard.word word ∷ [])

-- the twin's, with its word 0
abbrev pub twin_sheet : List ℕ
twin_sheet = unit_sheet twin_table (0 ∷ [])

-- the twin's table, with entry (1, 0) leading to 1
abbrev pub disconnected_table : List ℕ
disconnected_table = 2 ∷ 2 ∷ 1 ∷ 0 ∷ 0 ∷ 5 ∷ 1 ∷ 1 ∷ 1 ∷ 5 ∷ []

-- the sheet of one state and one command, with the word 0 and an answer
abbrev pub single_sheet : ℕ → List ℕ
single_sheet answer = unit_sheet (single_table answer) (0 ∷ [])

-- cause 12 is absent where the table specifies another answer than the byte for none
pub twelve_clear : (answer place : ℕ) → (answer ≡ no_answer → ⊥) → {c : Check} → c ≡ Clear
    → ((refusal 12 with place if eqb answer no_answer) else c) ≡ Clear
twelve_clear answer place some e =
    ap₂ ◌else◌ (absent 12 place (ne_eqb answer no_answer some)) e ∙ else_clear Clear

-- ---- what computes, all of it at once: the sequences, and from the bytes of the sheets what is built and the causes
-- before 9
record Computed : Type 0 where
  twin_sequence : sequence twin (0 ∷ []) ≡ 0 ∷ 0 ∷ 0 ∷ 0 ∷ 0 ∷ 0 ∷ 1 ∷ 0 ∷ 0 ∷ 0 ∷ 1 ∷ 0 ∷ []
  single_sequence : (answer : ℕ) → sequence (single answer) (0 ∷ []) ≡ 0 ∷ 0 ∷ 0 ∷ 0 ∷ []
  twin_built : sequence (machine_in twin_sheet) (word_in twin_sheet)
      ≡ 0 ∷ 0 ∷ 0 ∷ 0 ∷ 0 ∷ 0 ∷ 1 ∷ 0 ∷ 0 ∷ 0 ∷ 1 ∷ 0 ∷ []
  twin_clear : first_cause (connected_causes twin_sheet) ≡ Clear
  disconnected : first_cause (connected_causes (unit_sheet disconnected_table (0 ∷ []))) ≡ Refused 8 1
  single_built : (answer : ℕ)
      → sequence (machine_in (single_sheet answer)) (word_in (single_sheet answer)) ≡ 0 ∷ 0 ∷ 0 ∷ 0 ∷ []
  single_clear : (answer : ℕ) → (answer ≡ no_answer → ⊥) → first_cause (connected_causes (single_sheet answer)) ≡ Clear

computed : Computed
unfolding joined header_of refusal◌with◌if◌ ◌else◌ first_cause first record_at end role_of cause1 cause2 cause_of
    parse_step parse_from parse parsed of_kind ◌or◌ find sheet_causes refusal_of found_in record_of part part_bytes content
    machine_of run answers cause3 cause4 cause12 commands_cause cause6 machine_in table_causes machine_causes word_causes load_causes
    guard or_else first_of first_string first_path transfer following cause8 connected_causes T nth_state first_blocks
    opening approach test state_tests tests sequence twin single
computed = record {
  twin_sequence = refl;
  single_sequence = λ answer. refl;
  twin_built = refl;
  twin_clear = refl;
  disconnected = refl;
  single_built = λ answer. refl;
  single_clear = λ answer some. twelve_clear answer 9 some refl;
}

-- ---- the twin's sheet; what is built is certified, with 13 recognised places
pub twin_building : (room : ℕ) → 12 ≤ room → building room twin_sheet ≡ Written 12
twin_building room l = outcome_writing (wrote computed.twin_clear (ap length (sym computed.twin_built)) l)

pub twin_buffer : (buffer : List ℕ) → 12 ≤ length buffer
    → buffer_after twin_sheet buffer ≡ (0 ∷ 0 ∷ 0 ∷ 0 ∷ 0 ∷ 0 ∷ 1 ∷ 0 ∷ 0 ∷ 0 ∷ 1 ∷ 0 ∷ []) ++ drop 12 buffer
twin_buffer buffer l =
    written_leaves buffer (wrote computed.twin_clear (ap length (sym computed.twin_built)) l)
    ∙ ap (λ (xs : List ℕ). written xs buffer) computed.twin_built

pub twin_certified : outcome twin (0 ∷ []) (sequence twin (0 ∷ [])) ≡ Certified 13
twin_certified = ap (outcome twin (0 ∷ [])) computed.twin_sequence ∙ twin_outcome

-- ---- where entry (1, 0) goes to 1, cause 8 is present at 1, whatever the room
pub disconnected_building : (room : ℕ) → building room (unit_sheet disconnected_table (0 ∷ [])) ≡ Refused 8 1
disconnected_building room = outcome_writing (by_cause computed.disconnected)

-- ---- the sheet of one state and one command
pub single_building : (answer room : ℕ) → (answer ≡ no_answer → ⊥) → 4 ≤ room
    → building room (single_sheet answer) ≡ Written 4
single_building answer room some l =
    outcome_writing (wrote (computed.single_clear answer some) (ap length (sym (computed.single_built answer))) l)

pub single_buffer : (answer : ℕ) (buffer : List ℕ) → (answer ≡ no_answer → ⊥) → 4 ≤ length buffer
    → buffer_after (single_sheet answer) buffer ≡ (0 ∷ 0 ∷ 0 ∷ 0 ∷ []) ++ drop 4 buffer
single_buffer answer buffer some l =
    written_leaves buffer
    (wrote (computed.single_clear answer some) (ap length (sym (computed.single_built answer))) l)
    ∙ ap (λ (xs : List ℕ). written xs buffer) (computed.single_built answer)

pub single_certified : (answer : ℕ) → outcome (single answer) (0 ∷ []) (sequence (single answer) (0 ∷ [])) ≡ Certified 5
single_certified answer =
    ap (outcome (single answer) (0 ∷ [])) (computed.single_sequence answer) ∙ single_outcome answer

-- the length formula is met there: no smaller one holds
pub single_longest : (answer : ℕ) → length (sequence (single answer) (0 ∷ [])) ≡ length_bound (single answer) (0 ∷ [])
unfolding length_bound single machine_of
single_longest answer = ap length (computed.single_sequence answer)

-- ---- the length of the house unit's sequence, and what the formula allows it (§10.1)
pub house_length : length (sequence house house_word) ≡ 203
unfolding sequence tests state_tests test approach opening first_blocks nth_state T following transfer first_path
    first_string first_of or_else guard run house machine_of house_payload
house_length = refl

pub house_bound : length_bound house house_word ≡ 361
unfolding length_bound house machine_of house_payload
house_bound = refl
