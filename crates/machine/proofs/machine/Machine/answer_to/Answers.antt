use Rattle.machine.specs.Machine.Laws.{tabled_answer}
use Rattle.machine.proofs.machine.Machine.answer_to.Goals as goal

pub returns : goal.returns
returns c =
    let m = c.args.self.now in
    tabled_answer m.n m.k m.start m.next m.answer c.args.s c.args.c c.byte.ensures c.entry_at.ensures
