-- What adding answers makes of a sheet (§15.4): its bytes up to the end of its sequence's record, and the answers; the
-- places of its refusals are places of the given sheet. Of a sheet that was written it refuses with 10 and 9 alone.
use Rattle.std.specs.Prelude.{Err}
use Rattle.std.specs.Prelude.{ℕ, ◌≡◌, refl, true, List, [], ◌∷◌, ◌++◌, length, take}
use Rattle.std.proofs.Common.{sym, ap, subst, ◌∙◌, true≢false, arith}
use Rattle.std.proofs.Math.Path.{ap₂}
use mathlib.Core.List.Memᴰ
use Rattle.facts.specs.Bytes.{Bytes}
use Rattle.sheet.specs.Check.{◌else◌, first_cause, Check, Clear}
use Rattle.sheet.specs.Promise.{Written}
use Rattle.sheet.specs.Check.Laws.{else_assoc, else_refused, else_clear, both_clear}
use Rattle.sheet.specs.Format.{standard, end}
use Rattle.sheet.specs.Reader.{sheet_causes, needed, machine_payload, word_in, sequence_in, machine_record}
use Rattle.sheet.specs.Reader.{word_record, sequence_record}
use Rattle.sheet.specs.Promise.Laws.{writes_first}
use Rattle.sheet.specs.Joining.{bytes_of, record_in, fresh, Successive}
use Rattle.sheet.specs.Joining.Laws.{joined_none, joined_long, standard_roles, needed_fresh}
use Rattle.sheet.specs.Joining.Front.{front, kept_front}
use Rattle.machine.specs.Machine.{machine_of}
use Rattle.machine.specs.Causes.{cause10, machine_in, table_causes, word_causes, sequence_causes, table_causes_in}
use Rattle.machine.specs.Causes.{word_causes_in, sequence_causes_in, load_causes}
use Rattle.machine.specs.Causes.Lists.{distinguishes_clear, sequence_clear, machine_causes_are, load_causes_are}
use Rattle.machine.specs.Causes.Lists.{clear_sheet, clear_machine}
use Rattle.writer.specs.declared.wanted.Wanted.{Wanted}
use Rattle.writer.specs.declared.wanted.Wanted.TheVariants.{Sequence, Answers}
use Rattle.writer.specs.Parts.{Parts, parts_of, with_answers, needs_of, sheet_of, word_start, sequence_start}
use Rattle.writer.specs.Parts.{answers_start}
use Rattle.writer.specs.Writer.{part_causes, answers_causes, AddsAnswers}
use Rattle.writer.specs.Writer.Laws.{part_causes_are, later_answers, answers_causes_are, clear_formed}
use Rattle.writer.specs.Writer.Reading.{ReadsBack, written_reads, Within, written_sequence, written_loads}

-- the roles that are needed of the given sheet
abbrev roles : List (List ℕ)
roles = needed standard (needs_of Sequence)

first_roles : Successive standard 0 roles
first_roles = (standard_roles.0, (standard_roles.1.0, (standard_roles.1.1.0, tt)))

module _ (s ys : List ℕ) (bytes : Bytes s) (clear : first_cause (sheet_causes standard roles s) ≡ Clear) where
  -- its records as they are, and the answers
  pub answered_front : sheet_of Answers (with_answers s ys)
      ≡ take (end (sequence_record s)) s ++ bytes_of (fresh standard.answers ys)
  unfolding sheet_of
  answered_front =
      let kept = needed_fresh standard s roles clear in
      rw (
        ← kept _ (Memᴰ.head refl),
        ← kept _ (Memᴰ.tail (Memᴰ.head refl)),
        ← kept _ (Memᴰ.tail (Memᴰ.tail (Memᴰ.head refl))),
      )
      (kept_front standard s bytes roles first_roles clear (fresh standard.answers ys))

  -- the records start where they start in the given sheet, and the answers' where its third one ends
  starts : ((machine_record s).start ≡ 0) × (((word_record s).start ≡ word_start (with_answers s ys))
      × ((sequence_record s).start ≡ sequence_start (with_answers s ys)))
  starts =
      let h = (front standard s bytes roles first_roles clear).adjacent in
      (h.0, (h.1.0, h.1.1.0))

  ends : end (sequence_record s) ≡ answers_start (with_answers s ys)
  ends =
      let machine = record_in standard s standard.machine in
      let word = record_in standard s standard.word in
      let sequence = record_in standard s standard.sequence in
      omega (
        arith,
        (front standard s bytes roles first_roles clear).ends,
        joined_long machine (word ∷ sequence ∷ []),
        joined_long word (sequence ∷ []),
        joined_long sequence [],
        ap length joined_none,
      )

  parts_causes : first_cause (part_causes Answers (with_answers s ys))
      ≡ (first_cause (table_causes_in s) else (first_cause (word_causes_in s)
      else (first_cause (sequence_causes_in s) else cause10 (end (sequence_record s)) (sequence_in s) ys)))
  unfolding machine_in
  parts_causes =
      part_causes_are Answers (with_answers s ys)
      ∙ ap₂ ◌else◌ (ap (λ (n : ℕ). first_cause (table_causes standard n (machine_payload s))) (sym starts.0))
      (ap₂ ◌else◌ (ap (λ (n : ℕ). first_cause (word_causes (machine_in s) n (word_in s))) (sym starts.1.0))
      (later_answers (machine_in s) (sequence_start (with_answers s ys)) (sequence_in s) ys
      ∙ ap₂ ◌else◌ (ap (λ (n : ℕ). first_cause (sequence_causes (machine_in s) n (sequence_in s))) (sym starts.1.1))
      (ap (λ (n : ℕ). cause10 n (sequence_in s) ys) (sym ends))))

-- the causes are those of loading machine, word and sequence of the given sheet, at their places there, and then 10
pub answered_causes : (s ys : List ℕ) → Bytes s → first_cause (answers_causes s ys)
    ≡ (first_cause (load_causes (needs_of Sequence) s) else cause10 (end (sequence_record s)) (sequence_in s) ys)
answered_causes s ys bytes =
    answers_causes_are s ys
    ∙ go (first_cause (sheet_causes standard roles s)) refl
    ∙ sym (ap (λ (c : Check). c else ten) (load_causes_are (needs_of Sequence) s
    ∙ ap (λ (c : Check). c else behind) (machine_causes_are (needs_of Sequence) s)))
  where
    ten : Check
    ten = cause10 (end (sequence_record s)) (sequence_in s) ys

    behind : Check
    behind = first_cause (word_causes_in s) else first_cause (sequence_causes_in s)

    go : (c : Check) → first_cause (sheet_causes standard roles s) ≡ c
        → (first_cause (sheet_causes standard roles s) else first_cause (part_causes Answers (with_answers s ys)))
        ≡ (((first_cause (sheet_causes standard roles s) else first_cause (table_causes_in s)) else behind) else ten)
    go (Err r) e = rw e (simp (else_refused r.number r.place))
    go Clear e = rw (parts_causes s ys bytes e) (simp else_assoc)

-- the buffer, where the answer is written: its first bytes read as the sheet's machine, word and sequence and these
-- answers
pub added_reads : (s ys : List ℕ) {before after : List ℕ} {n : ℕ} → AddsAnswers s ys before after (Written n)
    → ReadsBack Answers (with_answers s ys) (take n after)
added_reads s ys {before} h =
    let is = writes_first before h in
    let clear = (both_clear _ _ (sym (answers_causes_are s ys) ∙ is.0)).1 in
    subst (ReadsBack Answers (with_answers s ys)) (sym is.1) (written_reads Answers (with_answers s ys) clear)

-- ---- a sheet that was written with a sequence
module _ (v : Wanted) (p : Parts) (ys : List ℕ) (e : first_cause (part_causes v p) ≡ Clear)
    (wanted : (needs_of v).sequence ≡ true) where
  -- the parts with other answers
  abbrev others : Parts
  others = parts_of p.machine p.word p.sequence ys

  same_parts : with_answers (sheet_of v p) ys ≡ others
  same_parts =
      rw ((written_reads v p e).machine.payload, (written_reads v p e).word.payload, written_sequence v p e wanted)

  -- its only cause before 9 is 10
  pub written_answered : first_cause (answers_causes (sheet_of v p) ys) ≡ cause10 (answers_start p) p.sequence ys
  written_answered =
      let h = clear_formed v p e in
      let M = machine_of standard p.machine in
      let within : Within (needs_of Sequence) v =
      record { sequence = λ _. wanted; answers = λ a. absurd (true≢false (sym a)) } in
      let t = sheet_of v p in
      let kinds = clear_sheet (needs_of Sequence) t
      (clear_machine (needs_of Sequence) t (written_loads v p e (needs_of Sequence) within)) in
      let word = distinguishes_clear M (word_start p) p.word h.word in
      let later = later_answers M (sequence_start p) p.sequence ys
      ∙ ap (λ (c : Check). c else cause10 (answers_start p) p.sequence ys)
      (sequence_clear M (sequence_start p) p.sequence (h.sequence wanted))
      ∙ else_clear _ in
      answers_causes_are t ys
      ∙ ap₂ ◌else◌ kinds (ap (λ (q : Parts). first_cause (part_causes Answers q)) same_parts
      ∙ part_causes_are Answers others
      ∙ ap₂ ◌else◌ h.table (ap₂ ◌else◌ word later ∙ else_clear _)
      ∙ else_clear _)
      ∙ else_clear _
