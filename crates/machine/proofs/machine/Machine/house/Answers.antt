use Rattle.std.proofs.Common.{◌∙◌}
use Rattle.machine.proofs.HouseTable.{house_loaded}
use Rattle.machine.proofs.machine.Machine.house.Goals as goal

pub returns : goal.returns
returns c = c.load.ensures ∙ house_loaded c.house_payload-payload.ensures
