-- How the code's checks, made one by one, are the first cause of the writer's list. Assumes nothing.
use Prim.Native.Nat.{ℕ, ◌≤◌}
use mathlib.Core.Path.{◌≡◌, sym, ap₂, ◌∙◌}
use lib.ListN.{length}
use Rattle.sheet.specs.Check.{◌else◌, first_cause, Check, Clear, Refused}
use Rattle.sheet.specs.Check.Laws.{stops_at, goes_on}
use Rattle.sheet.specs.Format.{standard, offset}
use Rattle.machine.specs.Limits.{most_machine}
use Rattle.machine.specs.Machine.{Mealy, machine_of}
use Rattle.machine.specs.Causes.{table_causes, word_causes}
use Rattle.machine.specs.Causes.Lists.{table_short}
use Rattle.writer.specs.declared.wanted.Wanted.{Wanted}
use Rattle.writer.specs.Parts.{Parts, word_start}
use Rattle.writer.specs.Writer.{later_causes, part_causes}
use Rattle.writer.specs.Writer.Laws.{part_causes_are}

-- ---- all parts
module _ (v : Wanted) (p : Parts) where
  abbrev on : Mealy → ℕ → Check
  on M at =
      first_cause (word_causes M at p.word)
      else first_cause (later_causes v M (offset at (length p.word)) p.sequence p.answers)

  module _ {table : Check} (is : table ≡ first_cause (table_causes standard 0 p.machine)) where
    pub table_stops : {n q : ℕ} → table ≡ Refused n q → table ≡ first_cause (part_causes v p)
    table_stops e = stops_at _ _ (part_causes_are v p) is e

    module _ (clear : table ≡ Clear) where
      pub machine_few : length p.machine ≤ most_machine standard
      machine_few = table_short standard 0 p.machine (sym is ∙ clear)

      pub table_goes_on : {M : Mealy} {at : ℕ} {c : Check} → M ≡ machine_of standard p.machine → at ≡ word_start p
          → c ≡ on M at → c ≡ first_cause (part_causes v p)
      table_goes_on me ae ce = ce ∙ ap₂ on me ae ∙ goes_on _ _ (part_causes_are v p) is clear
