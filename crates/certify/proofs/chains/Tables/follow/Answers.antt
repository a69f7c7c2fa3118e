use Rattle.std.proofs.Common.{arith}
use Rattle.machine.specs.Machine.Laws.{tabled_next}
use Rattle.certify.specs.Propagation.{Followed}
use Rattle.certify.proofs.chains.Tables.follow.Goals as goal

pub returns : goal.returns
returns c =
    let m = c.args.m.now in
    Followed.steps c.alternative-v.result
    c.byte.result
    (omega (arith, c.if-place-self.false))
    c.alternative-v.ensures.inside
    c.alternative-v.ensures.path
    c.if-self-v.false
    (tabled_next m.n m.k m.start m.next m.answer _ _ c.byte.ensures c.entry_at-e.ensures)
    c.equalise.ensures
