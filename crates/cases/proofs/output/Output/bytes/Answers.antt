use Rattle.std.proofs.Common.{arith, length, ◌+◌, ◌≤◌}
use Rattle.sheet.specs.Writing.Laws.{put_puts}
use Rattle.cases.proofs.output.Output.bytes.Goals as goal

pub invariant_of-self : goal.invariant_of-self
invariant_of-self c =
    let start = c.if-self-bytes.self in
    let fits : start.used + length c.args.bytes.now ≤ length start.buffer.now =
    omega (arith, c.if-self-bytes-2.false, start.in_bounds) in
    let put =
    put_puts start.buffer.now start.used c.args.bytes.now fits c.put-self.ensures.buffer_after c.put-self.ensures.value in
    record { in_bounds = omega (arith, put.inside, c.put-self.auto.buffer) }
