use Rattle.std.proofs.Common.{arith, ◌∙◌}
use Rattle.report.specs.Digits.{digits_decimal, few_digits}
use Rattle.report.proofs.Putting.{next_same}
use Rattle.report.proofs.pieces.Cursor.put_decimal.Goals as goal

pub returns : goal.returns
returns c =
    let made = c.decimal-size in
    let put = c.put.ensures in
    record {
      next = next_same (made.ensures.digits ∙ digits_decimal c.args.n made.result made.ensures.len) put;
      upper_bound = omega (
        arith,
        few_digits c.args.n made.result c.ranges.n.fits made.ensures.len,
        made.ensures.in_bounds.1,
        put.puts.ends,
      );
    }
