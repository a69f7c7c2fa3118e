use Rattle.std.proofs.Common.{refl, sym, ap}
use Rattle.report.specs.Words.{mistake_of}
use Rattle.report.proofs.Putting.{next_append, next_prints, prints_same}
use Rattle.report.proofs.Making.{writes_error}
use Rattle.report.proofs.words.tell.Goals as goal

pub returns : goal.returns
returns c =
    writes_error _ refl c.to_error.ensures
    (prints_same (ap mistake_of (sym c.mistake_text.ensures.text))
    (next_prints c.new-line.ensures.bytes c.new-line.ensures.end
    (next_append _ _ (next_append _ _ c.put.ensures c.put-2.ensures) c.put-3.ensures)))
