-- The laws of the writer's causes (§15.2): the list written out, that parts which are not wanted play no role, what
-- parts show that have none of them, in both directions, and that such parts make records in order and a sheet that is
-- not too long.
use Rattle.std.specs.Prelude.{ℕ, ◌≤◌, ◌≡◌, refl, true, List, [], ◌∷◌, ◌++◌, length}
use Rattle.std.proofs.Common.{sym, ap₂, ◌∙◌, true≢false, arith}
use Rattle.std.proofs.Math.Path.{ap}
use Rattle.sheet.specs.Check.{◌else◌, first_cause, Check, Clear}
use Rattle.sheet.specs.Check.Laws.{else_clear, both_clear, cause_none, cause_one, cause_append, else_end}
use Rattle.sheet.specs.Format.{standard, longest, offset}
use Rattle.sheet.specs.Reader.{sheet_causes, when, needed}
use Rattle.sheet.specs.Joining.{InOrder, fresh}
use Rattle.sheet.specs.Joining.Laws.{standard_roles}
use Rattle.machine.specs.Limits.{most_machine, most_sequence}
use Rattle.machine.specs.Machine.{Mealy, machine_of, Commands, Distinguishes}
use Rattle.machine.specs.Causes.{cause10, table_causes, word_causes, sequence_causes}
use Rattle.machine.specs.Causes.Laws.{clear_few, few_clear}
use Rattle.machine.specs.Causes.Lists.{table_short, clear_distinguishes, distinguishes_clear, clear_sequence}
use Rattle.machine.specs.Causes.Lists.{sequence_clear}
use Rattle.writer.specs.declared.wanted.Wanted.{Wanted}
use Rattle.writer.specs.declared.wanted.Wanted.TheVariants.{Word, Sequence, Answers}
use Rattle.writer.specs.Parts.{Parts, with_answers, needs_of, records_of, wanted_of, sheet_of, word_start}
use Rattle.writer.specs.Parts.{sequence_start}
use Rattle.writer.specs.Parts.Laws.{sheet_long}
use Rattle.writer.specs.Writer.{later_causes, part_causes, answers_causes}

-- ---- the lists, written out
-- of sequence and answers, by what is wanted
module _ (M : Mealy) (at : ℕ) (xs ys : List ℕ) where
  pub later_word : first_cause (later_causes Word M at xs ys) ≡ Clear
  later_word = cause_none

  pub later_sequence : first_cause (later_causes Sequence M at xs ys) ≡ first_cause (sequence_causes M at xs)
  later_sequence =
      cause_append (sequence_causes M at xs) []
      ∙ ap (λ (c : Check). first_cause (sequence_causes M at xs) else c) cause_none
      ∙ else_end _

  pub later_answers : first_cause (later_causes Answers M at xs ys)
      ≡ (first_cause (sequence_causes M at xs) else cause10 (offset at (length xs)) xs ys)
  later_answers =
      let ten = cause10 (offset at (length xs)) xs ys in
      cause_append (sequence_causes M at xs) (ten ∷ [])
      ∙ ap (λ (c : Check). first_cause (sequence_causes M at xs) else c) (cause_one ten)

-- of all parts
module _ (v : Wanted) (p : Parts) where
  abbrev M : Mealy
  M = machine_of standard p.machine

  pub part_causes_are : first_cause (part_causes v p)
      ≡ (first_cause (table_causes standard 0 p.machine)
      else (first_cause (word_causes M (word_start p) p.word)
      else first_cause (later_causes v M (sequence_start p) p.sequence p.answers)))
  unfolding part_causes
  part_causes_are =
      cause_append (table_causes standard 0 p.machine) _
      ∙ ap (λ (c : Check). first_cause (table_causes standard 0 p.machine) else c)
      (cause_append (word_causes M (word_start p) p.word) _)

-- of a sheet that is given answers
pub answers_causes_are : (s ys : List ℕ) → first_cause (answers_causes s ys)
    ≡ (first_cause (sheet_causes standard (needed standard (needs_of Sequence)) s)
    else first_cause (part_causes Answers (with_answers s ys)))
unfolding answers_causes
answers_causes_are s ys = cause_append (sheet_causes standard (needed standard (needs_of Sequence)) s) _

-- ---- the parts that are not wanted play no role
pub wanted_alone : (v : Wanted) (p : Parts) → (part_causes v (wanted_of v p) ≡ part_causes v p)
    × (sheet_of v (wanted_of v p) ≡ sheet_of v p)
unfolding part_causes sheet_of
wanted_alone Word p = (refl, refl)
wanted_alone Sequence p = (refl, refl)
wanted_alone Answers p = (refl, refl)

-- ---- parts that have none of the causes: a table, a word that separates its states, and where they are wanted a
-- sequence within its limits and no more answers than it has commands
pub record WellFormed (v : Wanted) (p : Parts) : Type 0 where
  pub table : first_cause (table_causes standard 0 p.machine) ≡ Clear
  pub word : Distinguishes (machine_of standard p.machine) p.word
  pub sequence : (needs_of v).sequence ≡ true
      → Commands most_sequence (machine_of standard p.machine).k p.sequence
  pub answers : (needs_of v).answers ≡ true → length p.answers ≤ length p.sequence

later_formed : (v : Wanted) (M : Mealy) (at : ℕ) (xs ys : List ℕ) → first_cause (later_causes v M at xs ys) ≡ Clear
    → ((needs_of v).sequence ≡ true → Commands most_sequence M.k xs)
    × ((needs_of v).answers ≡ true → length ys ≤ length xs)
later_formed Word M at xs ys e = (λ t. absurd (true≢false (sym t)), λ t. absurd (true≢false (sym t)))
later_formed Sequence M at xs ys e =
    (λ t. clear_sequence M at xs (sym (later_sequence M at xs ys) ∙ e), λ t. absurd (true≢false (sym t)))
later_formed Answers M at xs ys e =
    let h = both_clear _ _ (sym (later_answers M at xs ys) ∙ e) in
    (λ t. clear_sequence M at xs h.0, λ t. clear_few (offset at (length xs)) xs ys h.1)

formed_later : (v : Wanted) (M : Mealy) (at : ℕ) (xs ys : List ℕ)
    → ((needs_of v).sequence ≡ true → Commands most_sequence M.k xs)
    → ((needs_of v).answers ≡ true → length ys ≤ length xs) → first_cause (later_causes v M at xs ys) ≡ Clear
formed_later Word M at xs ys h k = later_word M at xs ys
formed_later Sequence M at xs ys h k = later_sequence M at xs ys ∙ sequence_clear M at xs (h refl)
formed_later Answers M at xs ys h k =
    later_answers M at xs ys
    ∙ ap₂ ◌else◌ (sequence_clear M at xs (h refl)) (few_clear (offset at (length xs)) xs ys (k refl))
    ∙ else_clear Clear

pub clear_formed : (v : Wanted) (p : Parts) → first_cause (part_causes v p) ≡ Clear → WellFormed v p
clear_formed v p e =
    let table = both_clear _ _ (sym (part_causes_are v p) ∙ e) in
    let word = both_clear _ _ table.1 in
    let later = later_formed v _ (sequence_start p) p.sequence p.answers word.1 in
    record {
      table = table.0;
      word = clear_distinguishes _ (word_start p) p.word word.0;
      sequence = later.0;
      answers = later.1;
    }

pub formed_clear : (v : Wanted) (p : Parts) → WellFormed v p → first_cause (part_causes v p) ≡ Clear
formed_clear v p h =
    part_causes_are v p
    ∙ ap₂ ◌else◌ h.table
    (ap₂ ◌else◌ (distinguishes_clear _ (word_start p) p.word h.word)
    (formed_later v _ (sequence_start p) p.sequence p.answers h.sequence h.answers)
    ∙ else_clear Clear)
    ∙ else_clear Clear

-- ---- such parts are short, so that their records are in order and the sheet is not too long
module _ (p : Parts) where
  machine_few : {v : Wanted} → WellFormed v p → length p.machine ≤ most_machine standard
  machine_few h = table_short standard 0 p.machine h.table

  -- the records behind those of machine and word
  abbrev behind : Wanted → List (ℕ × List ℕ)
  behind v =
      when (needs_of v).sequence (fresh standard.sequence p.sequence ∷ [])
      ++ when (needs_of v).answers (fresh standard.answers p.answers ∷ [])

  two_order : {v : Wanted} → WellFormed v p → InOrder standard 2 (behind v) → InOrder standard 0 (records_of v p)
  two_order h later =
      let one = standard_roles.0.0 in
      let two = standard_roles.1.0.0 in (
        omega (arith, one),
        omega arith,
        omega (arith, machine_few h),
        (omega (arith, one, two), omega arith, omega (arith, h.word.commands.few), rw two later),
      )

  pub formed_order : (v : Wanted) → WellFormed v p → InOrder standard 0 (records_of v p)
  formed_order Word h = two_order h tt
  formed_order Sequence h =
      let three = standard_roles.1.1.0.0 in
      two_order h (omega (arith, three), omega arith, omega (arith, (h.sequence refl).few), tt)
  formed_order Answers h =
      let three = standard_roles.1.1.0.0 in
      let four = standard_roles.1.1.1.0.0 in
      let few : length p.answers ≤ most_sequence = omega (arith, (h.sequence refl).few, h.answers refl) in
      two_order h (
        omega (arith, three),
        omega arith,
        omega (arith, (h.sequence refl).few),
        (omega (arith, three, four), omega arith, omega (arith, few), tt),
      )

  pub formed_short : (v : Wanted) → WellFormed v p → length (sheet_of v p) ≤ longest
  formed_short Word h = omega (arith, sheet_long Word p, machine_few h, h.word.commands.few)
  formed_short Sequence h =
      omega (arith, sheet_long Sequence p, machine_few h, h.word.commands.few, (h.sequence refl).few)
  formed_short Answers h =
      omega (
        arith,
        sheet_long Answers p,
        machine_few h,
        h.word.commands.few,
        (h.sequence refl).few,
        h.answers refl,
      )
