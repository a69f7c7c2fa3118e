use Rattle.std.proofs.Common.{arith, ap, ◌∙◌}
use Rattle.std.proofs.lemmas.Bool.Decides.{nat_tests}
use Rattle.report.specs.Lines.{spaced}
use Rattle.report.proofs.Putting.{next_append, next_same, some_phrase}
use Rattle.report.proofs.pieces.Cursor.put_phrase.Goals as goal

pub returns : goal.returns
returns c =
    let phrase = c.phrase_of-phrase in
    record {
      next = next_same (some_phrase phrase.result.now (grind (arith, nat_tests)) ∙ ap spaced phrase.ensures.value)
          (next_append _ _ c.put.ensures c.put-2.ensures);
      upper_bound = omega (arith, phrase.ensures.short, c.put.ensures.puts.ends, c.put-2.ensures.puts.ends);
    }
