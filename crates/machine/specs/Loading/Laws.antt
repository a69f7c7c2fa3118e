-- The laws of what is loaded: with the causes of loading alone the machine is within its limits; and with a cause more.
use Rattle.std.specs.Prelude.{ℕ, ◌≡◌, List}
use Rattle.std.proofs.Common.{sym, ap, ◌∙◌}
use Rattle.sheet.specs.Check.{◌else◌, first_cause, Check, Clear}
use Rattle.sheet.specs.declared.reader.Needs.{Needs}
use Rattle.sheet.specs.Check.Laws.{both_clear}
use Rattle.machine.specs.declared.loading.Loaded.{Loaded}
use Rattle.machine.specs.Machine.{meaning, Proper}
use Rattle.machine.specs.Causes.{load_causes}
use Rattle.machine.specs.Causes.Lists.{load_proper}
use Rattle.machine.specs.Loading.{LoadedBy}

pub loaded_proper : (n : Needs) (s : List ℕ) {l : Loaded} → LoadedBy (load_causes n s) s l → l.check ≡ Clear
    → Proper (meaning l.machine)
loaded_proper n s h e = rw (h.machine e) (load_proper n s (sym h.check ∙ e))

-- a list that goes on where the other is clear
pub loaded_more : (causes more : List Check) (s : List ℕ) {l : Loaded} → LoadedBy causes s l → (d : Check)
    → first_cause more ≡ (first_cause causes else d) → {c : Check} → c ≡ (l.check else d)
    → LoadedBy more s (record { check = c; machine = l.machine; records = l.records })
loaded_more causes more s {l} h d e ce = record {
  check = ce ∙ ap (λ (x : Check). x else d) h.check ∙ sym e;
  machine = λ t. h.machine (both_clear l.check d (sym ce ∙ t)).0;
  holds = h.holds;
  records = h.records;
}
