-- What was read stands within the buffer.
use Rattle.std.proofs.Common.{length, ◌≤◌}
use Rattle.streams.proofs.input.read_all.Given as goal

abbrev pub invariant-loop : goal.invariant-loop
invariant-loop g l = l.size ≤ length l.buf
