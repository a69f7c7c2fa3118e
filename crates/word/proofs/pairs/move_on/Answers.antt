use Rattle.std.proofs.Common.{sym}
use Rattle.word.specs.Search.{unmet}
use Rattle.word.proofs.Moving.{moving_none, moving_past, moving_met, moving_kept, moving_end}
use Rattle.word.proofs.pairs.move_on.Goals as goal
use Rattle.word.proofs.pairs.move_on.Goals.{then-answer_alike+else-q, else-answer_alike}

pub loop-p-init : goal.loop-p-init
loop-p-init c = rw c.clear.ensures (moving_none _ _ _ _ _)

pub returns-then-q : goal.returns-then-q
returns-then-q c =
    moving_met _ _ _ _ _ c.loop-p.invariant c.loop-p-test.true c.answer_alike.ensures c.if-answer_alike.true
    c.moved_pair-q.ensures c.if-q.true

pub loop-p-preserved : goal.loop-p-preserved
loop-p-preserved c =
    let h = c.loop-p.invariant in
    let l = c.loop-p-test.true in
    let e = c.answer_alike.ensures in
    elim c.if-answer_alike.branch [
      | then-answer_alike+else-q w ↦
          rw (w.left-is, w.push.ensures.items)
          (moving_kept _ _ _ _ _ h l e w.if-answer_alike.true w.moved_pair-q.ensures w.if-q.false)
      | else-answer_alike w ↦ rw w.left-is (moving_past _ _ _ _ _ h l e w.if-answer_alike.false)
    ]

pub returns : goal.returns
unfolding unmet
returns c =
    let all = moving_end _ _ _ _ _ c.loop-p.invariant c.loop-p-test.false in
    (all, rw (sym all) c.loop-p.invariant.apart)
