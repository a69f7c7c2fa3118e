use Rattle.certify.proofs.Words.{written_all}
use Rattle.certify.proofs.word.mark_words.Goals as goal

pub returns : goal.returns
returns c = written_all c.args.w.now c.args.xs.now c.loop-j.invariant c.loop-j-test.false
