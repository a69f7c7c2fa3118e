use Rattle.std.proofs.Common.{refl, sym, ap, ◌∙◌}
use Rattle.report.specs.Lines.{first_line}
use Rattle.report.specs.Dialogue.{begun, is_refused}
use Rattle.report.proofs.Putting.{prints_same}
use Rattle.report.proofs.Making.{writes_output}
use Rattle.report.proofs.dialogue.begin.Goals as goal

pub returns : goal.returns
unfolding begun
returns c = record {
  started = c.start-first.result;
  starts = c.start-first.ensures;
  desk = refl;
  left = refl;
  over = c.is_err.ensures.value ∙ ap is_refused c.start-first.ensures.first.is;
  written = writes_output _ refl c.to_output.ensures
      (prints_same (ap first_line (sym c.start-first.ensures.first.is)) c.first_line.ensures);
}
