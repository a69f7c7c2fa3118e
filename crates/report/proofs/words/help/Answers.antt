use Rattle.std.proofs.Common.{refl}
use Rattle.report.specs.Words.{sheet_help, help_text}
use Rattle.report.proofs.Making.{writes_output}
use Rattle.report.proofs.words.help.Goals as goal

pub returns : goal.returns
unfolding sheet_help help_text
returns c = writes_output _ refl c.to_output.ensures c.print.ensures
