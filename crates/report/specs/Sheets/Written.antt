-- The sheet that the writer writes, and the services (§15.4): one whose needed roles were written refuses it for none of
-- causes 1 to 7 and 12, nor for 10. And the sheets that judging accepts: each is the sheet of its own parts, and no two
-- of them have equal parts.
use Rattle.std.specs.Prelude.{Err}
use Rattle.std.specs.Prelude.{ℕ, ◌≤◌, ◌≡◌, true, false, List, length}
use Rattle.std.proofs.Common.{sym, ap, ap₂, ◌∙◌, true≢false}
use Rattle.facts.specs.Bytes.{Bytes}
use Rattle.sheet.specs.Check.{◌else◌, first_cause, Clear}
use Rattle.sheet.specs.Promise.{cause9, Answer, Written}
use Rattle.judge.specs.Answer.{Answer as Judgement, Pass, Wrong, Unheard, Unfinished}
use Rattle.sheet.specs.Check.Laws.{else_clear, else_end}
use Rattle.sheet.specs.Format.{standard}
use Rattle.sheet.specs.Reader.{sequence_in, answers_in, answers_record}
use Rattle.sheet.specs.Writing.{written}
use Rattle.machine.specs.Machine.{machine_of}
use Rattle.machine.specs.Causes.Laws.{few_clear}
use Rattle.word.specs.Service.{search_needs, search_causes}
use Rattle.certify.specs.Certification.{sequence_needs, mark_bytes, certify_causes}
use Rattle.certify.specs.Certification.Laws.{marking_causes_are, load_clear}
use Rattle.build.specs.Building.{build_needs, cause8, connected_causes}
use Rattle.build.specs.Building.Connection.{connected_causes_are}
use Rattle.judge.specs.Judging.{judge_causes, judgement}
use Rattle.judge.specs.Judging.Laws.{judge_causes_are, marking_clear, few_answers, Result, refused, not_certified}
use Rattle.judge.specs.Judging.Laws.{judged}
use Rattle.judge.proofs.JudgingLaws.{judgement_result}
use Rattle.writer.specs.declared.wanted.Wanted.{Wanted}
use Rattle.writer.specs.declared.wanted.Wanted.TheVariants.{Answers}
use Rattle.writer.specs.Parts.{Parts, parts_in, needs_of, sheet_of}
use Rattle.writer.specs.Writer.{part_causes, WritesParts}
use Rattle.writer.specs.Writer.Reading.{written_reads, written_machine, written_sequence, written_loads, written_few}
use Rattle.writer.specs.Writer.Reading.{answers_sequence}
use Rattle.writer.specs.Writer.Same.{Consists, same_sheet, same_written, one_sheet}

-- ---- the services on a sheet that was written
module _ (v : Wanted) (p : Parts) (e : first_cause (part_causes v p) ≡ Clear) where
  -- the search refuses nothing
  pub written_searched : first_cause (search_causes (sheet_of v p)) ≡ Clear
  written_searched =
      written_loads v p e search_needs
      (record { sequence = λ q. absurd (true≢false (sym q)); answers = λ q. absurd (true≢false (sym q)) })

  -- building and the desk refuse with 8 alone, before building's 9
  pub written_connected : first_cause (connected_causes (sheet_of v p))
      ≡ cause8 (machine_of standard p.machine) p.word
  written_connected =
      let load = written_loads v p e build_needs
      (record { sequence = λ q. absurd (true≢false (sym q)); answers = λ q. absurd (true≢false (sym q)) }) in
      connected_causes_are (sheet_of v p)
      ∙ ap₂ ◌else◌ load (ap₂ cause8 (written_machine v p e) (written_reads v p e).word.payload)
      ∙ else_clear _

  -- certifying refuses with 9 alone, where a sequence was written
  pub written_certified : (needs_of v).sequence ≡ true → (room : ℕ)
      → first_cause (certify_causes room (sheet_of v p)) ≡ cause9 room (mark_bytes p.sequence)
  written_certified q room =
      let load = written_loads v p e (sequence_needs false)
      (record { sequence = λ _. q; answers = λ a. absurd (true≢false (sym a)) }) in
      marking_causes_are false room (sheet_of v p)
      ∙ ap₂ ◌else◌ load (ap (λ (xs : List ℕ). cause9 room (mark_bytes xs)) (written_sequence v p e q))
      ∙ else_clear _

  -- and so does judging before 11, where answers were written
  pub written_judged : (needs_of v).answers ≡ true → (room : ℕ)
      → first_cause (judge_causes room (sheet_of v p)) ≡ cause9 room (mark_bytes p.sequence)
  written_judged a room =
      let q = answers_sequence v a in
      let load = written_loads v p e (sequence_needs true) (record { sequence = λ _. q; answers = λ _. a }) in
      let marks = marking_causes_are true room (sheet_of v p)
      ∙ ap₂ ◌else◌ load (ap (λ (xs : List ℕ). cause9 room (mark_bytes xs)) (written_sequence v p e q))
      ∙ else_clear _ in
      judge_causes_are room (sheet_of v p) ∙ ap₂ ◌else◌ marks (written_few v p e a) ∙ else_end _

-- ---- sheets that judging accepts
-- it gives a result and no refusal
abbrev pub Accepts : Judgement → Type 0
Accepts (Pass size end) = Unit {0}
Accepts (Wrong place specified given) = Unit {0}
Accepts (Unheard place) = Unit {0}
Accepts (Unfinished number) = Unit {0}
Accepts (Err r) = ⊥

accepted : (room : ℕ) (s : List ℕ) {a : Judgement} → Result room s a → Accepts a
    → first_cause (judge_causes room s) ≡ Clear
accepted room s (refused e) h = absurd h
accepted room s (not_certified e o) h = e
accepted room s (judged e c j) h = e

module _ (room : ℕ) (s : List ℕ) (h : Accepts (judgement room s)) where
  pub accepted_consists : Consists Answers s
  accepted_consists =
      let clear = accepted room s (judgement_result room s) h in
      record {
        load = load_clear true room s (marking_clear room s clear);
        few = λ _. few_clear (answers_record s).start (sequence_in s) (answers_in s) (few_answers room s clear);
        others = tt;
      }

  -- its parts make that sheet, and the writer, given them and a room for it, writes it
  pub accepted_same : Bytes s → sheet_of Answers (parts_in s) ≡ s
  accepted_same bytes = same_sheet s bytes Answers accepted_consists

  pub accepted_written : Bytes s → {before after : List ℕ} {a : Answer} → length s ≤ length before
      → WritesParts Answers (parts_in s) before after a → (a ≡ Written (length s)) × (after ≡ written s before)
  accepted_written bytes fits w = same_written s bytes Answers accepted_consists fits w

-- two that have equal parts are one sheet
pub accepted_one : (n m : ℕ) (s t : List ℕ) → Bytes s → Bytes t → Accepts (judgement n s) → Accepts (judgement m t)
    → parts_in s ≡ parts_in t → s ≡ t
accepted_one n m s t bs bt hs ht e =
    one_sheet Answers s t bs bt (accepted_consists n s hs) (accepted_consists m t ht) e
