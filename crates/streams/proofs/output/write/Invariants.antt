-- What is left stands within the bytes. The measure is what is left.
use Rattle.std.proofs.Common.{length, ◌≤◌}
use Rattle.streams.proofs.output.write.Given as goal

abbrev pub invariant-loop-rest : goal.invariant-loop-rest
invariant-loop-rest g l = length l.rest ≤ length l.bytes

abbrev pub decreases-loop-rest : goal.decreases-loop-rest
decreases-loop-rest g l = length l.rest
