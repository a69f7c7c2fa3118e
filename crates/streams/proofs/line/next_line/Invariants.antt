-- What was read stands within the buffer.
use Rattle.std.proofs.Common.{length, ◌≤◌}
use Rattle.streams.proofs.line.next_line.Given as goal

abbrev pub invariant-loop : goal.invariant-loop
invariant-loop l = l.size ≤ length l.buf
