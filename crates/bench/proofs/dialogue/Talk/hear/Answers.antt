use Rattle.report.specs.Output.Laws.{out_end}
use Rattle.bench.proofs.dialogue.Talk.hear.Goals as goal

pub write_both-requires-clause-out : goal.write_both-requires-clause-out
write_both-requires-clause-out c = out_end c.turn-turned.ensures.written
