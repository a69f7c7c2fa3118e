use Rattle.std.proofs.Common.{refl}
use Rattle.report.specs.Lines.{none_line}
use Rattle.report.proofs.Making.{writes_error}
use Rattle.report.proofs.sheets.without_word.Goals as goal

pub returns : goal.returns
unfolding none_line
returns c = writes_error none_line refl c.to_error.ensures c.print.ensures
