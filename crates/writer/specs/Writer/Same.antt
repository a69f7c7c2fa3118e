-- A sheet of exactly the wanted roles, without causes 1 to 7, 12 and 10, is the sheet of its own parts (§15.4); among
-- sheets of the same roles the parts determine it.
use Rattle.std.specs.Prelude.{is_none}
use Rattle.std.specs.Prelude.{ℕ, ◌≤◌, ◌≡◌, refl, true, List, [], ◌∷◌, length}
use Rattle.std.proofs.Math.Path.{sym}
use Rattle.std.proofs.Common.{ap, ◌∙◌}
use mathlib.Core.List.Memᴰ
use Rattle.facts.specs.Bytes.{Bytes}
use Rattle.sheet.specs.Check.{first_cause, Clear}
use Rattle.sheet.specs.Promise.{Answer, Written}
use Rattle.sheet.specs.Format.{standard, Parsed, parsed, of_kind, ◌or◌, find}
use Rattle.sheet.specs.Reader.{sheet_causes, needed, machine_payload, sequence_in, answers_in}
use Rattle.sheet.specs.Reader.{machine_record}
use Rattle.sheet.specs.Reader.{answers_record}
use Rattle.sheet.specs.Writing.{written}
use Rattle.sheet.specs.Promise.Laws.{Outcome, wrote, outcome_writing, written_leaves}
use Rattle.sheet.specs.Joining.{joined, placed, InOrder, Successive, Lacks}
use Rattle.sheet.specs.Joining.Laws.{parsed_joined, standard_roles, needed_fresh}
use Rattle.sheet.specs.Joining.Front.{front_whole}
use Rattle.machine.specs.Causes.{cause10, machine_in, load_causes}
use Rattle.machine.specs.Causes.Laws.{clear_few, table_anywhere}
use Rattle.machine.specs.Causes.Lists.{clear_sheet, clear_table, clear_machine, word_distinguishes}
use Rattle.machine.specs.Causes.Lists.{sequence_commands}
use Rattle.writer.specs.declared.wanted.Wanted.{Wanted}
use Rattle.writer.specs.declared.wanted.Wanted.TheVariants.{Word, Sequence, Answers}
use Rattle.writer.specs.Parts.{Parts, parts_in, needs_of, records_of, sheet_of}
use Rattle.writer.specs.Writer.{part_causes, WritesParts}
use Rattle.writer.specs.Writer.Laws.{WellFormed, clear_formed, formed_clear, formed_order}
use Rattle.writer.specs.Writer.Reading.{written_loads, written_few}

-- the roles that are not wanted (§15.1)
abbrev pub unwanted : Wanted → List (List ℕ)
unwanted Word = standard.sequence ∷ standard.answers ∷ []
unwanted Sequence = standard.answers ∷ []
unwanted Answers = []

-- a sheet that has the wanted roles and no other, and for these none of causes 1 to 7, 12 and 10 (§15.4)
pub record Consists (v : Wanted) (s : List ℕ) : Type 0 where
  pub load : first_cause (load_causes (needs_of v) s) ≡ Clear
  pub few : (needs_of v).answers ≡ true → cause10 (answers_record s).start (sequence_in s) (answers_in s) ≡ Clear
  pub others : Lacks standard s (unwanted v)

-- every choice wants the word
word_needed : (v : Wanted) → (needs_of v).word ≡ true
word_needed Word = refl
word_needed Sequence = refl
word_needed Answers = refl

-- ---- its parts have no cause
pub consists_formed : (v : Wanted) (s : List ℕ) → Consists v s → WellFormed v (parts_in s)
unfolding machine_in
consists_formed v s h = record {
  table =
      table_anywhere standard (machine_record s).start 0 (machine_payload s)
      (clear_table (needs_of v) s (clear_machine (needs_of v) s h.load));
  word = word_distinguishes (needs_of v) s (word_needed v) h.load;
  sequence = λ q. sequence_commands (needs_of v) s q h.load;
  answers = λ a. clear_few (answers_record s).start (sequence_in s) (answers_in s) (h.few a);
}

-- ---- and make that sheet
module _ (s : List ℕ) (bytes : Bytes s) where
  -- causes 1 and 2 are absent
  kinds : (v : Wanted) → Consists v s → first_cause (sheet_causes standard (needed standard (needs_of v)) s) ≡ Clear
  kinds v h = clear_sheet (needs_of v) s (clear_machine (needs_of v) s h.load)

  pub same_sheet : (v : Wanted) → Consists v s → sheet_of v (parts_in s) ≡ s
  unfolding sheet_of
  same_sheet Word h =
      let roles = needed standard (needs_of Word) in
      let clear = kinds Word h in
      let kept = needed_fresh standard s roles clear in
      sym (front_whole standard s bytes roles (standard_roles.0, (standard_roles.1.0, tt)) clear h.others
      ∙ rw (kept _ (Memᴰ.head refl), kept _ (Memᴰ.tail (Memᴰ.head refl))) refl)
  same_sheet Sequence h =
      let roles = needed standard (needs_of Sequence) in
      let clear = kinds Sequence h in
      let kept = needed_fresh standard s roles clear in
      let first : Successive standard 0 roles =
      (standard_roles.0, (standard_roles.1.0, (standard_roles.1.1.0, tt))) in
      sym (front_whole standard s bytes roles first clear h.others
      ∙ rw (
        kept _ (Memᴰ.head refl),
        kept _ (Memᴰ.tail (Memᴰ.head refl)),
        kept _ (Memᴰ.tail (Memᴰ.tail (Memᴰ.head refl))),
      ) refl)
  same_sheet Answers h =
      let roles = needed standard (needs_of Answers) in
      let clear = kinds Answers h in
      let kept = needed_fresh standard s roles clear in
      sym (front_whole standard s bytes roles standard_roles clear h.others
      ∙ rw (
        kept _ (Memᴰ.head refl),
        kept _ (Memᴰ.tail (Memᴰ.head refl)),
        kept _ (Memᴰ.tail (Memᴰ.tail (Memᴰ.head refl))),
        kept _ (Memᴰ.tail (Memᴰ.tail (Memᴰ.tail (Memᴰ.head refl)))),
      ) refl)

  -- so the writer, given its parts and a room for it, writes it
  pub same_written : (v : Wanted) → Consists v s → {before after : List ℕ} {a : Answer} → length s ≤ length before
      → WritesParts v (parts_in s) before after a → (a ≡ Written (length s)) × (after ≡ written s before)
  same_written v h {before} {after} {a} fits w =
      let is = same_sheet v h in
      let clear = formed_clear v (parts_in s) (consists_formed v s h) in
      let o : Outcome (first_cause (part_causes v (parts_in s))) (length before) (sheet_of v (parts_in s))
      (Written (length s)) = wrote clear (sym (ap length is)) fits in (
        w.answer.is ∙ outcome_writing o,
        w.buffer ∙ written_leaves before o ∙ ap (λ (t : List ℕ). written t before) is,
      )

-- ---- what was written is such a sheet
lacks_others : (v : Wanted) (p : Parts) → InOrder standard 0 (records_of v p) → Lacks standard (sheet_of v p) (unwanted v)
unfolding sheet_of find of_kind ◌or◌
lacks_others v p order = go v order
  where
    missing : (v : Wanted) → InOrder standard 0 (records_of v p) → (ks : List ℕ)
        → is_none (find ks (parsed standard (joined (records_of v p))).records)
        ≡ is_none (find ks (placed 0 (records_of v p)))
    missing v order ks =
        ap (λ (w : Parsed). is_none (find ks w.records)) (parsed_joined standard (records_of v p) order)

    go : (v : Wanted) → InOrder standard 0 (records_of v p) → Lacks standard (joined (records_of v p)) (unwanted v)
    go Word order = (missing Word order standard.sequence, (missing Word order standard.answers, tt))
    go Sequence order = (missing Sequence order standard.answers, tt)
    go Answers order = tt

pub written_consists : (v : Wanted) (p : Parts) → first_cause (part_causes v p) ≡ Clear → Consists v (sheet_of v p)
written_consists v p e = record {
  load = written_loads v p e (needs_of v) (record { sequence = λ q. q; answers = λ a. a });
  few = written_few v p e;
  others = lacks_others v p (formed_order p v (clear_formed v p e));
}

-- ---- two such sheets of the same roles with equal parts are one
pub one_sheet : (v : Wanted) (s t : List ℕ) → Bytes s → Bytes t → Consists v s → Consists v t → parts_in s ≡ parts_in t
    → s ≡ t
one_sheet v s t bs bt hs ht e = sym (same_sheet s bs v hs) ∙ ap (sheet_of v) e ∙ same_sheet t bt v ht
