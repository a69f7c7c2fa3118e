use Rattle.std.proofs.Common.{◌≡◌, ap}
use Rattle.sheet.specs.declared.parse.Reading.{Reading}
use Rattle.sheet.specs.Reader.Laws.{machine_read}
use Rattle.machine.specs.Machine.{meaning}
use Rattle.machine.specs.Causes.{held}
use Rattle.machine.specs.Causes.Lists.{held_loaded}
use Rattle.machine.proofs.LoadChecks.{loaded_by}
use Rattle.machine.proofs.loading.load_sheet.Goals as goal
use Rattle.machine.proofs.loading.load_sheet.Goals.{After-machine-1}

-- the machine is the one that is held
machine_is : (c : After-machine-1)
    → meaning c.load-machine.result ≡ held c.args.sheet.now
machine_is c =
    let sheet = c.args.sheet in
    held_loaded sheet.now
    (machine_read sheet c.payload.result
    (ap (λ (r : Reading). r.records) c.read_sheet-reading.ensures) c.payload.ensures)
    c.load-machine.ensures

pub all_checks-check-requires : goal.all_checks-check-requires
all_checks-check-requires c = record { as_read = c.read_sheet-reading.ensures; as_held = machine_is c }

pub returns : goal.returns
returns c =
    loaded_by c.args.needs c.args.sheet.now _ c.all_checks-check.ensures
    (machine_is (goal.at.returns c).After-machine-1)
    (ap (λ (r : Reading). r.records) c.read_sheet-reading.ensures)
