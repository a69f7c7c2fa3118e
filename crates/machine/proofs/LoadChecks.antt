-- How the code's checks, made one by one, are the first cause of the lists.
-- Assumes nothing.
use Prim.Native.Nat.{ℕ, ◌+◌, ◌*◌, ◌<◌}
use mathlib.Core.Path.{◌≡◌, refl, sym, ap, ◌∙◌}
use mathlib.Core.Bool.{Bool, true, false}
use mathlib.Core.List.{List}
use lib.ListN.{length, get_or}
use Rattle.sheet.specs.Check.{refusal◌with◌if◌, first_cause, first, Check, Clear}
use Rattle.std.specs.Prelude.{Option}
use Rattle.sheet.specs.declared.record.Record.{Record}
use Rattle.sheet.specs.declared.reader.Needs.{Needs}
use Rattle.sheet.specs.Check.Laws.{cause_none, absent, first_clear}
use borrow.Author.Tests.{lt-leb}
use Rattle.std.proofs.Common.{zero-add, one-mul}
use Rattle.sheet.specs.Format.{header, standard}
use Rattle.sheet.specs.Reader.{when, found_in, records_in, record_or, record_of}
use Rattle.sheet.specs.Reader.Laws.{record_is}
use Rattle.facts.specs.Bytes.{Bytes}
use Rattle.machine.specs.declared.machine.Machine.{Machine}
use Rattle.machine.specs.Machine.{Mealy, no_answer, meaning}
use Rattle.machine.specs.Machine.Laws.{meaning_commands}
use Rattle.machine.specs.Causes.{outside, cause4, cause12, byte_cause, commands_cause, held, machine_causes}
use Rattle.machine.specs.Causes.{load_causes}
use Rattle.machine.specs.Causes.Laws.{cause4_is, cause12_is}
use Rattle.machine.specs.Causes.Lists.{clear_machine, held_is}
use Rattle.machine.specs.declared.loading.Loaded.{Loaded}
use Rattle.machine.specs.Loading.{LoadedBy, NeededRequires}

-- ---- a payload
-- causes 5 and 7, of the length
pub length_is : (number most at : ℕ) (w : List ℕ) {o : Bool} {c : Check} → o ≡ outside most (length w)
    → c ≡ (refusal number with at if o) → c ≡ (refusal number with at if outside most (length w))
length_is number most at w oe ce = ce ∙ ap (λ (x : Bool). refusal number with at if x) oe

-- and of the commands, where all are below k
pub below_clear : (number base k : ℕ) (w : List ℕ) → ((i : ℕ) → i < length w → get_or w i 0 < k)
    → first (length w) (byte_cause number base w 0 1 k) ≡ Clear
unfolding byte_cause
below_clear number base k w h =
    first_clear (length w) _
    (λ i l. absent number _ (lt-leb k (get_or w (0 + 1 * i) 0) (rw (zero-add, one-mul) (h i l))))

-- causes 4 and 12 of the table, of bytes, as the scans find them
pub four_is : (at : ℕ) (p : List ℕ) {n : ℕ} {c : Check} → n ≡ get_or p 0 0
    → c ≡ first (get_or p 0 0 * get_or p 1 0) (byte_cause 4 (at + header) p standard.table 2 n)
    → c ≡ cause4 standard at p
four_is at p ne ce =
    ce
    ∙ ap (λ (x : ℕ). first (get_or p 0 0 * get_or p 1 0) (byte_cause 4 (at + header) p standard.table 2 x)) ne
    ∙ cause4_is standard at p

pub twelve_is : (at : ℕ) (p : List ℕ) → Bytes p → {c : Check}
    → c ≡ first (get_or p 0 0 * get_or p 1 0) (byte_cause 12 (at + header) p (standard.table + 1) 2 no_answer)
    → c ≡ cause12 standard at p
twelve_is at p bytes ce = ce ∙ cause12_is standard at p bytes

-- causes 5 and 7 of the machine that the program holds
pub held_commands : (m : Machine) (number most at : ℕ) (w : List ℕ) {c : Check}
    → c ≡ commands_cause number most m.k at w → c ≡ commands_cause number most (meaning m).k at w
held_commands m number most at w ce =
    ce ∙ ap (λ (k : ℕ). commands_cause number most k at w) (sym (meaning_commands m))

-- ---- a sheet
-- causes that are made where they are needed
pub needed_not : (cs : List Check) {b : Bool} → b ≡ false → Clear ≡ first_cause (when b cs)
needed_not cs e = sym cause_none ∙ ap (λ (x : Bool). first_cause (when x cs)) (sym e)

pub needed_made : (causes : Mealy → ℕ → List ℕ → List Check) {M N : Mealy} {at to : ℕ} {w v : List ℕ} {b : Bool}
    {c : Check} → b ≡ true → M ≡ N → at ≡ to → w ≡ v → c ≡ first_cause (causes M at w)
    → c ≡ first_cause (when b (causes N to v))
needed_made causes t me ae we ce = ce ∙ (rw (me, ae, we, t) refl)

-- what the checks of word and sequence need
pub needed_required : (n : Needs) (s : List ℕ) → first_cause (machine_causes n s) ≡ Clear → {M : Mealy} → M ≡ held s
    → (ks : List ℕ) {f : Option Record} → f ≡ found_in standard ks s → NeededRequires s M ks f
needed_required n s e me ks fe = record { machine = me ∙ held_is n s e; found = fe }

-- where the record of a role starts
pub start_is : (ks s : List ℕ) {f : Option Record} → f ≡ found_in standard ks s → {r : Record} → r ≡ record_or f
    → r.start ≡ (record_of standard ks s).start
start_is ks s e h = ap (λ (r : Record). r.start) (h ∙ record_is standard ks s e)

-- all that loading promises
pub loaded_by : (n : Needs) (s : List ℕ) (l : Loaded) → l.check ≡ first_cause (load_causes n s)
    → meaning l.machine ≡ held s → l.records ≡ records_in standard s → LoadedBy (load_causes n s) s l
loaded_by n s l ce he re = record {
  check = ce;
  machine = λ e. he ∙ held_is n s (clear_machine n s (sym ce ∙ e));
  holds = he;
  records = re;
}
