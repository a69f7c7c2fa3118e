use Rattle.report.proofs.Listing.{Listing}
use Rattle.report.proofs.pieces.Cursor.put_list.Given as goal

abbrev pub invariant-loop-n : goal.invariant-loop-n
invariant-loop-n l = Listing l.numbers l.initial.self l.self l.n-index
