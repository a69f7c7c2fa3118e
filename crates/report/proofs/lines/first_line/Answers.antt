use Rattle.std.proofs.Common.{ap}
use Rattle.report.specs.Lines.{first_line, command_line}
use Rattle.report.proofs.Putting.{prints_same}
use Rattle.report.proofs.lines.first_line.Goals as goal

pub returns-in-Ok : goal.returns-in-Ok
unfolding command_line
returns-in-Ok c = prints_same (ap first_line c.in-Ok.is) c.numbered.ensures
