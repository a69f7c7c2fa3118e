-- No row before this one has the name.
use Rattle.std.proofs.Common.{◌≡◌, drop}
use Rattle.bench.specs.Words.{named_among}
use Rattle.bench.proofs.words.named.Given as goal

abbrev pub invariant-loop-row : goal.invariant-loop-row
invariant-loop-row l = named_among l.rows l.name l.n ≡ named_among (drop l.row-index l.rows) l.name l.n
