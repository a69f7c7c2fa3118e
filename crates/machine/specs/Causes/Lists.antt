-- The laws of the lists of causes: what a payload shows where its own are clear, in both directions; the causes of
-- loading written out, and what a sheet shows where they are clear.
use Rattle.std.specs.Prelude.{ℕ, ◌+◌, ◌*◌, ◌≤◌, ◌<◌, ◌≡◌, refl, Bool, true, false, length, take}
use Rattle.std.proofs.Common.{sym, ap, ap₂, ◌∙◌, arith, take_all}
use mathlib.Core.List.{List, ◌++◌, Memᴰ}
use Rattle.sheet.specs.Check.{◌else◌, first_cause, AllClear, Check, Clear, Refused}
use Rattle.sheet.specs.declared.reader.Needs.{Needs}
use Rattle.sheet.specs.Check.Laws.{else_clear, refusal_stays, both_clear, cause_none, cause_one, cause_two}
use Rattle.sheet.specs.Check.Laws.{cause_append, clear_all, all_clear}
use Rattle.sheet.specs.Format.{Format, standard}
use Rattle.sheet.specs.Reader.{sheet_causes, when, needed, Reads, machine_payload, word_in, sequence_in}
use Rattle.sheet.specs.Reader.{machine_record}
use Rattle.sheet.specs.Reader.{word_record, sequence_record}
use Rattle.sheet.specs.Reader.Laws.{needed_without_answers, needed_clear, clear_reads}
use Rattle.machine.specs.Limits.{most_machine, most_word, most_sequence}
use Rattle.machine.specs.Machine.{Mealy, machine_of, Proper, AlwaysAnswers, Commands, Distinguishes}
use Rattle.machine.specs.Causes.{cause5, cause7, cause6, machine_in, held, table_causes}
use Rattle.machine.specs.Causes.{word_causes, sequence_causes, table_causes_in, word_causes_in, sequence_causes_in}
use Rattle.machine.specs.Causes.{machine_causes, load_causes}
use Rattle.machine.specs.Causes.Laws.{Shape, clear_shape, shape_clear, shape_entries, clear_next, next_clear}
use Rattle.machine.specs.Causes.Laws.{clear_answers, answers_clear}
use Rattle.machine.specs.Causes.Laws.{clear_commands, table_causes_are, commands_clear, shape_long, commands_long}
use Rattle.machine.specs.Causes.Separation.{clear_separates, separates_clear}

-- ---- a machine's payload
module _ (F : Format) (at : ℕ) (p : List ℕ) (e : first_cause (table_causes F at p) ≡ Clear) where
  table_clear : AllClear (table_causes F at p)
  table_clear = clear_all (table_causes F at p) e

  pub table_shape : Shape F p
  unfolding table_causes
  table_shape = clear_shape F at p table_clear.0

  -- it has at most the bytes of the largest machine, so that its machine is the one that is loaded
  pub table_short : length p ≤ most_machine F
  table_short = omega (arith, table_shape.long, shape_entries F p table_shape)

  pub table_loaded : machine_of F (take (most_machine F) p) ≡ machine_of F p
  table_loaded = ap (machine_of F) (take_all (most_machine F) p table_short)

  -- its machine is within the limits, and each of its entries specifies an answer
  pub table_proper : Proper (machine_of F p)
  unfolding machine_of table_causes
  table_proper = record {
    some_states = table_shape.some_states;
    few_states = table_shape.few_states;
    some_commands = table_shape.some_commands;
    few_commands = table_shape.few_commands;
    starts = table_shape.some_states;
    stays = clear_next F at p table_clear.1.0;
  }

  pub table_answers : AlwaysAnswers (machine_of F p)
  unfolding machine_of table_causes
  table_answers = clear_answers F at p table_clear.1.1.0

-- the other direction: no cause of a payload of the right length whose machine is so
pub proper_clear : (F : Format) (at : ℕ) (p : List ℕ)
    → length p ≡ F.table + 2 * ((machine_of F p).n * (machine_of F p).k)
    → Proper (machine_of F p) → AlwaysAnswers (machine_of F p) → first_cause (table_causes F at p) ≡ Clear
unfolding machine_of table_causes
proper_clear F at p long h answers =
    let shape : Shape F p = record {
      some_states = h.some_states;
      few_states = h.few_states;
      some_commands = h.some_commands;
      few_commands = h.few_commands;
      long = long;
    } in
    all_clear (table_causes F at p) (
      shape_clear F at p shape,
      (
        next_clear F at p h.some_commands h.stays,
        (answers_clear F at p h.some_commands answers, tt),
      ),
    )

pub table_long : (F : Format) (at : ℕ) (p : List ℕ) → most_machine F < length p
    → first_cause (table_causes F at p) ≡ Refused 3 at
table_long F at p l = table_causes_are F at p ∙ refusal_stays _ (shape_long F at p l)

-- ---- a word and a sequence
module _ (M : Mealy) (at : ℕ) (w : List ℕ) where
  pub word_causes_are : first_cause (word_causes M at w) ≡ (cause5 M.k at w else cause6 M w)
  unfolding word_causes
  word_causes_are = cause_two (cause5 M.k at w) (cause6 M w)

  pub clear_distinguishes : first_cause (word_causes M at w) ≡ Clear → Distinguishes M w
  clear_distinguishes e =
      let two = both_clear _ _ (sym word_causes_are ∙ e) in
      record {
        commands = clear_commands 5 most_word M.k at w two.0;
        separates = clear_separates M w two.1;
      }

  pub distinguishes_clear : Distinguishes M w → first_cause (word_causes M at w) ≡ Clear
  distinguishes_clear d =
      word_causes_are
      ∙ ap₂ ◌else◌ (commands_clear 5 most_word M.k at w d.commands) (separates_clear M w d.separates)
      ∙ else_clear Clear

  pub word_long : most_word < length w → first_cause (word_causes M at w) ≡ Refused 5 at
  word_long l = word_causes_are ∙ refusal_stays _ (commands_long 5 most_word M.k at w l)

  pub sequence_causes_are : first_cause (sequence_causes M at w) ≡ cause7 M.k at w
  unfolding sequence_causes
  sequence_causes_are = cause_one (cause7 M.k at w)

  pub clear_sequence : first_cause (sequence_causes M at w) ≡ Clear → Commands most_sequence M.k w
  clear_sequence e = clear_commands 7 most_sequence M.k at w (sym sequence_causes_are ∙ e)

  pub sequence_clear : Commands most_sequence M.k w → first_cause (sequence_causes M at w) ≡ Clear
  sequence_clear h = sequence_causes_are ∙ commands_clear 7 most_sequence M.k at w h

  pub sequence_long : most_sequence < length w → first_cause (sequence_causes M at w) ≡ Refused 7 at
  sequence_long l = sequence_causes_are ∙ commands_long 7 most_sequence M.k at w l

-- ---- the lists of a sheet, written out
pub machine_causes_are : (n : Needs) (s : List ℕ) → first_cause (machine_causes n s)
    ≡ (first_cause (sheet_causes standard (needed standard n) s) else first_cause (table_causes_in s))
unfolding machine_causes
machine_causes_are n s = cause_append (sheet_causes standard (needed standard n) s) (table_causes_in s)

pub load_causes_are : (n : Needs) (s : List ℕ) → first_cause (load_causes n s)
    ≡ (first_cause (machine_causes n s)
    else (first_cause (when n.word (word_causes_in s)) else first_cause (when n.sequence (sequence_causes_in s))))
unfolding load_causes
load_causes_are n s =
    cause_append (machine_causes n s) (when n.word (word_causes_in s) ++ when n.sequence (sequence_causes_in s))
    ∙ ap (λ (c : Check). first_cause (machine_causes n s) else c)
    (cause_append (when n.word (word_causes_in s)) (when n.sequence (sequence_causes_in s)))

-- causes that are clear where they are needed
when_clear : (b : Bool) (cs : List Check) → (b ≡ true → first_cause cs ≡ Clear) → first_cause (when b cs) ≡ Clear
when_clear true cs h = h refl
when_clear false cs h = cause_none

pub loading_clear : (n : Needs) (s : List ℕ) → first_cause (machine_causes n s) ≡ Clear
    → (n.word ≡ true → first_cause (word_causes_in s) ≡ Clear)
    → (n.sequence ≡ true → first_cause (sequence_causes_in s) ≡ Clear) → first_cause (load_causes n s) ≡ Clear
loading_clear n s e w q =
    load_causes_are n s
    ∙ ap₂ ◌else◌ e (ap₂ ◌else◌ (when_clear n.word _ w) (when_clear n.sequence _ q) ∙ else_clear Clear)
    ∙ else_clear Clear

-- ---- machines
-- the machine loaded from the payload that reading gives is the one that is held
pub held_loaded : (s : List ℕ) {p : List ℕ} {M : Mealy} → p ≡ machine_payload s
    → M ≡ machine_of standard (take (most_machine standard) p)
    → M ≡ held s
unfolding held
held_loaded s pe e = e ∙ ap (λ (x : List ℕ). machine_of standard (take (most_machine standard) x)) pe

-- sheets with the same payload of the machine have the same machine
pub machine_same : (s t : List ℕ) → machine_payload t ≡ machine_payload s → machine_in t ≡ machine_in s
unfolding machine_in
machine_same s t e = ap (machine_of standard) e

-- ---- where the causes of the machine are clear
module _ (n : Needs) (s : List ℕ) (e : first_cause (machine_causes n s) ≡ Clear) where
  pub clear_sheet : first_cause (sheet_causes standard (needed standard n) s) ≡ Clear
  clear_sheet = (both_clear _ _ (sym (machine_causes_are n s) ∙ e)).0

  pub clear_table : first_cause (table_causes_in s) ≡ Clear
  clear_table = (both_clear _ _ (sym (machine_causes_are n s) ∙ e)).1

  -- each needed role is read
  pub kind_reads : (ks : List ℕ) → Memᴰ ks (needed standard n) → Reads standard ks s
  kind_reads ks m = clear_reads standard ks s (needed_clear standard s (needed standard n) ks m clear_sheet)

  pub payload_short : length (machine_payload s) ≤ most_machine standard
  payload_short = table_short standard (machine_record s).start (machine_payload s) clear_table

  -- the machine that is held is the sheet's
  pub held_is : held s ≡ machine_in s
  unfolding held machine_in
  held_is = table_loaded standard (machine_record s).start (machine_payload s) clear_table

  pub machine_proper : Proper (machine_in s)
  unfolding machine_in
  machine_proper = table_proper standard (machine_record s).start (machine_payload s) clear_table

-- ---- where the causes of loading are clear
module _ (n : Needs) (s : List ℕ) (e : first_cause (load_causes n s) ≡ Clear) where
  parts_clear : (first_cause (machine_causes n s) ≡ Clear)
      × ((first_cause (when n.word (word_causes_in s)) else first_cause (when n.sequence (sequence_causes_in s)))
      ≡ Clear)
  parts_clear = both_clear _ _ (sym (load_causes_are n s) ∙ e)

  pub clear_machine : first_cause (machine_causes n s) ≡ Clear
  clear_machine = parts_clear.0

  pub clear_word : n.word ≡ true → first_cause (word_causes_in s) ≡ Clear
  clear_word t =
      ap (λ (b : Bool). first_cause (when b (word_causes_in s))) (sym t) ∙ (both_clear _ _ parts_clear.1).0

  pub load_proper : Proper (machine_in s)
  load_proper = machine_proper n s clear_machine

  pub load_answers : AlwaysAnswers (machine_in s)
  unfolding machine_in
  load_answers = table_answers standard (machine_record s).start (machine_payload s) (clear_table n s clear_machine)

  clear_needed : n.sequence ≡ true → first_cause (sequence_causes_in s) ≡ Clear
  clear_needed t =
      ap (λ (b : Bool). first_cause (when b (sequence_causes_in s))) (sym t) ∙ (both_clear _ _ parts_clear.1).1

pub word_distinguishes : (n : Needs) (s : List ℕ) → n.word ≡ true → first_cause (load_causes n s) ≡ Clear
    → Distinguishes (machine_in s) (word_in s)
word_distinguishes n s t e =
    clear_distinguishes (machine_in s) (word_record s).start (word_in s) (clear_word n s e t)

pub sequence_commands : (n : Needs) (s : List ℕ) → n.sequence ≡ true → first_cause (load_causes n s) ≡ Clear
    → Commands most_sequence (machine_in s).k (sequence_in s)
sequence_commands n s t e =
    clear_sequence (machine_in s) (sequence_record s).start (sequence_in s) (clear_needed n s e t)

-- a service that does not need the answers refuses no sheet that one that does takes
pub load_without_answers : (w q : Bool) (s : List ℕ)
    → first_cause (load_causes (record { word = w; sequence = q; answers = true }) s) ≡ Clear
    → first_cause (load_causes (record { word = w; sequence = q; answers = false }) s) ≡ Clear
load_without_answers w q s e =
    let n : Needs = record { word = w; sequence = q; answers = true } in
    let m : Needs = record { word = w; sequence = q; answers = false } in
    let load = parts_clear n s e in
    let machine : first_cause (machine_causes m s) ≡ Clear =
    machine_causes_are m s
    ∙ ap₂ ◌else◌ (needed_without_answers standard w q s (clear_sheet n s load.0)) (clear_table n s load.0)
    ∙ else_clear Clear in
    load_causes_are m s ∙ ap₂ ◌else◌ machine load.1 ∙ else_clear Clear
