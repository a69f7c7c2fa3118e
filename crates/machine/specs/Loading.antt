-- What a service begins with that needs the machine (§4.2, §4.4): the first refusal of some causes of a sheet, the
-- machine, and the sheet's records. The laws stand in Loading.Laws.
use Rattle.std.specs.Prelude.{ℕ, ◌≡◌, List}
use Rattle.sheet.specs.Check.{first_cause, Check, Clear}
use Rattle.std.specs.Prelude.{Option}
use Rattle.sheet.specs.declared.record.Record.{Record}
use Rattle.sheet.specs.Format.{standard}
use Rattle.sheet.specs.Reader.{found_in, records_in}
use Rattle.machine.specs.declared.loading.Loaded.{Loaded}
use Rattle.machine.specs.Machine.{Mealy, meaning}
use Rattle.machine.specs.Causes.{machine_in, held}
pub mod Laws

-- what a function that loads the sheet s promises of its answer l, by the causes that it checks in order
pub record LoadedBy (causes : List Check) (s : List ℕ) (l : Loaded) : Type 0 where
  -- the first refusal, or Clear
  pub check : l.check ≡ first_cause causes
  -- where nothing is refused the machine is the sheet's
  pub machine : l.check ≡ Clear → meaning l.machine ≡ machine_in s
  -- on a refusal the specification leaves the machine free: it is this one in any case
  pub holds : meaning l.machine ≡ held s
  -- the records of the sheet, from which its parts are taken
  pub records : l.records ≡ records_in standard s

-- what the checks of word and sequence need: the machine is the sheet's own, and the record is the one that reading
-- these kinds finds
pub record NeededRequires (s : List ℕ) (M : Mealy) (ks : List ℕ) (f : Option Record) : Type 0 where
  pub machine : M ≡ machine_in s
  pub found : f ≡ found_in standard ks s
