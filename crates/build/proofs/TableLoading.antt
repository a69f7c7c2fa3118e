-- From what loading a sheet and filling the table of transfers promise to the causes of loading and 8.
-- Assumes nothing.
use Prim.Native.Nat.{ℕ}
use mathlib.Core.Path.{◌≡◌, refl, ap₂, ◌∙◌}
use mathlib.Core.List.{List}
use Rattle.sheet.specs.Check.{Check, Clear, Refused}
use Rattle.sheet.specs.Check.Laws.{stops_at, goes_on}
use Rattle.sheet.specs.Reader.{word_in}
use Rattle.machine.specs.declared.loading.Loaded.{Loaded}
use Rattle.machine.specs.Machine.{meaning}
use Rattle.machine.specs.Causes.{machine_in, load_causes}
use Rattle.machine.specs.Loading.{LoadedBy}
use Rattle.machine.specs.Loading.Laws.{loaded_more}
use Rattle.build.specs.Building.{build_needs, cause8, connected_causes}
use Rattle.build.specs.Building.Connection.{connected_causes_are}

module _ (s : List ℕ) {l : Loaded} (h : LoadedBy (load_causes build_needs s) s l) where
  -- one of the causes of loading
  pub early_connected : {a b : ℕ} → l.check ≡ Refused a b
      → LoadedBy (connected_causes s) s l
  early_connected e =
      loaded_more _ _ s h (cause8 (machine_in s) (word_in s)) (connected_causes_are s) (stops_at _ _ refl refl e)

  -- none of them: cause 8 decides
  pub eight_connected : l.check ≡ Clear → {w : List ℕ} → w ≡ word_in s → {c : Check}
      → c ≡ cause8 (meaning l.machine) w
      → LoadedBy (connected_causes s) s (record { check = c; machine = l.machine; records = l.records })
  eight_connected clear we ce =
      loaded_more _ _ s h (cause8 (machine_in s) (word_in s)) (connected_causes_are s)
      (ce ∙ ap₂ cause8 (h.machine clear) we ∙ goes_on _ _ refl refl clear)
