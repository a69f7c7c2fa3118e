use Rattle.std.proofs.Common.{ap}
use Rattle.report.specs.Lines.{order_line, command_line, home_line, stranger_line}
use Rattle.report.proofs.Putting.{prints_same}
use Rattle.report.proofs.lines.order_line.Goals as goal

pub returns-in-Command : goal.returns-in-Command
unfolding command_line
returns-in-Command c = prints_same (ap order_line c.in-Command.is) c.numbered.ensures

pub returns-in-Home : goal.returns-in-Home
unfolding home_line
returns-in-Home c = prints_same (ap order_line c.in-Home.is) c.numbered-in-Home.ensures

pub returns-in-Stranger : goal.returns-in-Stranger
unfolding stranger_line
returns-in-Stranger c = prints_same (ap order_line c.in-Stranger.is) c.numbered-in-Stranger.ensures
