use Rattle.std.proofs.Common.{arith}
use Rattle.report.proofs.Listing.{listing_none, listing_on}
use Rattle.report.proofs.pieces.Cursor.put_list.Goals as goal

pub loop-n-init : goal.loop-n-init
loop-n-init c = listing_none _ _ (omega (arith, c.requires))

pub loop-n-preserved : goal.loop-n-preserved
loop-n-preserved c =
    let put = c.put_labelled.ensures in
    listing_on c.args.numbers.now c.args.self.now c.loop-n.invariant c.loop-n-test.true put.next
    (omega (arith, put.upper_bound))
