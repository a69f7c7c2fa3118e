-- The collection of starred cases holds, as a whole. Building's cases come from build's Building.Twin; those of
-- certifying from certify's outcomes for the starred sequences, once the sheet is read; those of judging from certified
-- sequences and the verdict.
use Rattle.std.specs.Prelude.{ℕ, ◌≤◌, ◌≡◌, refl, List, [], ◌∷◌}
use Rattle.std.proofs.Common.{ap, ◌∙◌}
use Rattle.facts.specs.CommonPrefix.{agreed}
use Rattle.sheet.specs.Check.{refusal◌with◌if◌, ◌else◌, first_cause, first, Check, Clear, Refused}
use Rattle.sheet.specs.Promise.{cause9}
use Rattle.certify.specs.Answer.{Answer, Certified}
use Rattle.judge.specs.Answer.{Answer as Judgement, Pass, Wrong, Unfinished}
use Rattle.sheet.specs.Check.Laws.{else_clear, else_end}
use Rattle.sheet.specs.Format.{record_at, end, role_of, cause1, cause2, cause_of, parse_step, parse_from, parse}
use Rattle.sheet.specs.Format.{parsed, of_kind, ◌or◌, find}
use Rattle.sheet.specs.Reader.{sheet_causes, refusal_of, found_in, record_of, part, part_bytes, content, word_in}
use Rattle.sheet.specs.Reader.{sequence_in, answers_in}
use Rattle.sheet.specs.Writing.{header_of}
use Rattle.sheet.specs.Promise.Laws.{room_clear, by_cause, outcome_writing}
use Rattle.sheet.specs.Joining.{joined}
use Rattle.machine.specs.Machine.{Mealy, no_answer, machine_of, run, answers, state_at}
use Rattle.machine.specs.Causes.{cause3, cause4, cause12, commands_cause, cause6, machine_in, table_causes}
use Rattle.machine.specs.Causes.{cause10, word_causes, sequence_causes, machine_causes, load_causes}
use Rattle.certify.specs.Marks.Twin.{twin_table, single_table, twin as twin_machine, single as single_machine}
use Rattle.certify.specs.Certification.{marking_causes, certify_causes, outcome, certification}
use Rattle.certify.specs.Certification.Laws.{certification_clear, certification_refused}
use Rattle.certify.specs.Certification.Twin as outcomes
use Rattle.certify.proofs.CertificationTwin as outcomes_moved
use Rattle.build.specs.Building.{connected_causes}
use Rattle.build.specs.Building.Twin.{unit_sheet}
use Rattle.build.specs.Building.Twin as buildings
use Rattle.judge.specs.Judging.{judge_causes, difference, result_at, verdict, judgement}
use Rattle.judge.specs.Judging.Laws.{certifying_clear, judgement_refused, judgement_verdict}
use Rattle.report.specs.Lines.{judge_line}
use Rattle.report.specs.Lines.Examples as lines
use Rattle.starred.specs.Starred.{sequence_sheet, answers_sheet, no_state_table}
use Rattle.starred.specs.Starred.{built_twin, twin_with, twin_answered, JudgedAs, Starred}

-- what certifying reads in a sheet
record Sheet (room : ℕ) (s : List ℕ) (M : Mealy) (w xs : List ℕ) : Type 0 where
  clear : first_cause (certify_causes room s) ≡ Clear
  machine : machine_in s ≡ M
  word : word_in s ≡ w
  sequence : sequence_in s ≡ xs

-- such a sheet, by what computes of it
reads_as : {room : ℕ} {s : List ℕ} {M : Mealy} {w xs : List ℕ} → first_cause (certify_causes room s) ≡ Clear
    → machine_in s ≡ M → word_in s ≡ w → sequence_in s ≡ xs → Sheet room s M w xs
reads_as c m w xs = record { clear = c; machine = m; word = w; sequence = xs }

-- so it answers the outcome of that machine, word and sequence
answered : (room : ℕ) {s : List ℕ} {M : Mealy} {w xs : List ℕ} {a : Answer} → Sheet room s M w xs → outcome M w xs ≡ a
    → certification room s ≡ a
answered room {s} h e = certification_clear room s h.clear ∙ (rw (h.machine, h.word, h.sequence) e)

-- what judging reads in a sheet with the built sequence
record Judged (room : ℕ) (s ys : List ℕ) : Type 0 where
  clear : first_cause (judge_causes room s) ≡ Clear
  machine : machine_in s ≡ twin_machine
  word : word_in s ≡ 0 ∷ []
  sequence : sequence_in s ≡ built_twin
  answers : answers_in s ≡ ys

-- such a sheet, by what computes of it
judged_as : {room : ℕ} {s ys : List ℕ} → first_cause (judge_causes room s) ≡ Clear → machine_in s ≡ twin_machine
    → word_in s ≡ 0 ∷ [] → sequence_in s ≡ built_twin → answers_in s ≡ ys → Judged room s ys
judged_as c m w xs ys = record { clear = c; machine = m; word = w; sequence = xs; answers = ys }

-- the cause 9 that is left where nothing else is present is absent in a room that is large enough
nine_clear : (room size : ℕ) → size ≤ room → (cause9 room size else Clear) ≡ Clear
nine_clear room size l = else_end _ ∙ room_clear room size l

-- ---- what computes from the bytes of the sheets, all of it at once
abbrev Reads : ℕ → List ℕ → Type 0
Reads size xs = (room : ℕ) → size ≤ room → Sheet room (twin_with xs) twin_machine (0 ∷ []) xs

abbrev Verdict : List ℕ → Judgement → Type 0
Verdict ys a = ((room : ℕ) → 13 ≤ room → Judged room (twin_answered ys) ys) × (verdict twin_machine built_twin ys ≡ a)

record Computed : Type 0 where
  built : Reads 13 built_twin
  each_other : Reads 7 (0 ∷ 0 ∷ 1 ∷ 0 ∷ 1 ∷ 0 ∷ [])
  longer : Reads 8 (0 ∷ 0 ∷ 1 ∷ 0 ∷ 1 ∷ 0 ∷ 0 ∷ [])
  one : Reads 2 (0 ∷ [])
  late : Reads 4 (1 ∷ 0 ∷ 0 ∷ [])
  three : Reads 4 (0 ∷ 0 ∷ 0 ∷ [])
  pair : (answer room : ℕ) → (answer ≡ no_answer → ⊥) → 3 ≤ room
      → Sheet room (sequence_sheet (single_table answer) (0 ∷ []) (0 ∷ 0 ∷ [])) (single_machine answer) (0 ∷ [])
      (0 ∷ 0 ∷ [])
  short : (answer room : ℕ) → (answer ≡ no_answer → ⊥) → 2 ≤ room
      → Sheet room (sequence_sheet (single_table answer) (0 ∷ []) (0 ∷ [])) (single_machine answer) (0 ∷ []) (0 ∷ [])
  passes : Verdict (0 ∷ 1 ∷ 0 ∷ 1 ∷ 0 ∷ 1 ∷ 5 ∷ 0 ∷ 1 ∷ 0 ∷ 5 ∷ 1 ∷ []) (Pass 12 0)
  wrong_at : Verdict (0 ∷ 1 ∷ 0 ∷ 1 ∷ 0 ∷ 1 ∷ 6 ∷ 0 ∷ 1 ∷ 0 ∷ 5 ∷ 1 ∷ []) (Wrong 6 5 6)
  unfinished_run : Verdict (0 ∷ 1 ∷ 0 ∷ 1 ∷ []) (Unfinished 4)
  too_many : (room : ℕ) → 13 ≤ room → (a b c d e f g h i j k l m : ℕ)
      → first_cause (judge_causes room (twin_answered (a ∷ b ∷ c ∷ d ∷ e ∷ f ∷ g ∷ h ∷ i ∷ j ∷ k ∷ l ∷ m ∷ [])))
      ≡ Refused 10 41
  six_built : first_cause (connected_causes (unit_sheet twin_table (1 ∷ []))) ≡ Refused 6 1
  six_certified : (room : ℕ)
      → first_cause (certify_causes room (sequence_sheet twin_table (1 ∷ []) built_twin)) ≡ Refused 6 1
  six_judged : (room : ℕ)
      → first_cause (judge_causes room (answers_sheet twin_table (1 ∷ []) built_twin (0 ∷ []))) ≡ Refused 6 1
  four_built : (command : ℕ) → first_cause (connected_causes (unit_sheet no_state_table (command ∷ []))) ≡ Refused 4 8
  four_certified : (room command : ℕ)
      → first_cause (certify_causes room (sequence_sheet no_state_table (command ∷ []) built_twin)) ≡ Refused 4 8
  four_judged : (room command answer : ℕ)
      → first_cause (judge_causes room (answers_sheet no_state_table (command ∷ []) built_twin (answer ∷ []))) ≡ Refused 4 8

computed : Computed
unfolding twin_machine single_machine joined header_of refusal◌with◌if◌ ◌else◌ first_cause first record_at end role_of
    cause1 cause2 cause_of parse_step parse_from parse parsed of_kind ◌or◌ find sheet_causes refusal_of found_in record_of part
    part_bytes content machine_of run answers cause3 cause4 cause12 commands_cause cause6 machine_in table_causes
    machine_causes word_causes sequence_causes load_causes connected_causes marking_causes cause10 judge_causes verdict
    difference result_at agreed state_at
computed = record {
  built = λ room l. reads_as (nine_clear room 13 l) refl refl refl;
  each_other = λ room l. reads_as (nine_clear room 7 l) refl refl refl;
  longer = λ room l. reads_as (nine_clear room 8 l) refl refl refl;
  one = λ room l. reads_as (nine_clear room 2 l) refl refl refl;
  late = λ room l. reads_as (nine_clear room 4 l) refl refl refl;
  three = λ room l. reads_as (nine_clear room 4 l) refl refl refl;
  pair = λ answer room some l.
      reads_as (buildings.twelve_clear answer 9 some (nine_clear room 3 l)) refl refl refl;
  short = λ answer room some l.
      reads_as (buildings.twelve_clear answer 9 some (nine_clear room 2 l)) refl refl refl;
  passes = (λ room l. judged_as (nine_clear room 13 l) refl refl refl refl, refl);
  wrong_at = (λ room l. judged_as (nine_clear room 13 l) refl refl refl refl, refl);
  unfinished_run = (λ room l. judged_as (nine_clear room 13 l) refl refl refl refl, refl);
  too_many = λ room r a b c d e f g h i j k l m.
      ap (λ (x : Check). x else Refused 10 41) (room_clear room 13 r) ∙ else_clear (Refused 10 41);
  six_built = refl;
  six_certified = λ room. refl;
  six_judged = λ room. refl;
  four_built = λ command. refl;
  four_certified = λ room command. refl;
  four_judged = λ room command answer. refl;
}

-- ---- judging the built sequence, which certifying answers certified
judged : (room : ℕ) {s ys : List ℕ} {a : Judgement} → Judged room s ys → verdict twin_machine built_twin ys ≡ a
    → judgement room s ≡ a
judged room {s} h e =
    let certified : certification room s ≡ Certified 13 =
    certification_clear room s (certifying_clear room s h.clear)
    ∙ (rw (h.machine, h.word, h.sequence) outcomes.twin_built) in
    judgement_verdict room s h.clear certified ∙ (rw (h.machine, h.sequence, h.answers) e)

-- with its line
line_judged : {ys line : List ℕ} {a : Judgement} → Verdict ys a → judge_line a ≡ line → (room : ℕ) → 13 ≤ room
    → JudgedAs room (twin_answered ys) a line
line_judged h e room l = let answer = judged room (h.0 room l) h.1 in (answer, ap judge_line answer ∙ e)

-- ---- the whole
pub starred : Starred
starred = record {
  built = buildings.twin_building;
  built_bytes = buildings.twin_buffer;
  built_certified = λ room l. answered room (computed.built room l) outcomes.twin_built;
  each_other = λ room l. answered room (computed.each_other room l) outcomes_moved.twin_mutual;
  longer = λ room l. answered room (computed.longer room l) outcomes.twin_longer;
  one = λ room l. answered room (computed.one room l) outcomes_moved.twin_one;
  late = λ room l. answered room (computed.late room l) outcomes_moved.twin_late;
  three = λ room l. answered room (computed.three room l) outcomes.twin_three;
  passes = line_judged computed.passes lines.pass;
  wrong_at = line_judged computed.wrong_at lines.wrong;
  unfinished_run = line_judged computed.unfinished_run lines.unfinished;
  too_many = λ room r a b c d e f g h i j k l m.
      judgement_refused room _ (computed.too_many room r a b c d e f g h i j k l m);
  no_separation_built = λ room. outcome_writing (by_cause computed.six_built);
  no_separation_certified = λ room. certification_refused room _ (computed.six_certified room);
  no_separation_judged = λ room. judgement_refused room _ (computed.six_judged room);
  no_state_built = λ room command. outcome_writing (by_cause (computed.four_built command));
  no_state_certified = λ room command. certification_refused room _ (computed.four_certified room command);
  no_state_judged = λ room command answer. judgement_refused room _ (computed.four_judged room command answer);
  not_connected = buildings.disconnected_building;
  single_built = buildings.single_building;
  single_bytes = buildings.single_buffer;
  single_pair = λ answer room some l. answered room (computed.pair answer room some l) (outcomes.single_pair answer);
  single_short = λ answer room some l.
      answered room (computed.short answer room some l) (outcomes_moved.single_short answer);
}
