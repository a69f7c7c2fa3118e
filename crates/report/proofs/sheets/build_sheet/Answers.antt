use Rattle.std.proofs.Common.{arith, refl}
use Rattle.report.specs.Sheets.Certified.{connected_carries}
use Rattle.report.proofs.Making.{promised}
use Rattle.report.proofs.sheets.build_sheet.Goals as goal

pub returns : goal.returns
returns c =
    promised _ refl c.write_built-answer.ensures
    (λ e. omega (arith, (connected_carries c.args.sheet.now e).short)) c.to_streams.ensures
