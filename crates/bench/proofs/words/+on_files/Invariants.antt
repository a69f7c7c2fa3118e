-- The measure is how many files are left.
use Rattle.std.proofs.Common.{length}
use Rattle.bench.proofs.words.+on_files.Given as goal

abbrev pub decreases-on_files : goal.decreases-on_files
decreases-on_files l = length l.files.now
