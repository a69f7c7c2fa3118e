use Rattle.report.specs.Output.Laws.{out_end}
use Rattle.bench.proofs.inputs.answer.Goals as goal

pub write_both-requires-clause-out : goal.write_both-requires-clause-out
write_both-requires-clause-out c = out_end c.bench-written.ensures
