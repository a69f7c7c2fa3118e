use Rattle.std.proofs.Common.{◌≡◌, ◌<◌, length, get_or, length-append, rules}
use Rattle.std.proofs.lemmas.Slice.Zip.{zip_turn}
use Rattle.machine.specs.Machine.{meaning}
use Rattle.desk.proofs.Identifying.{following_start, following_differs, following_next}
use Rattle.desk.proofs.identification.follow.Goals as goal
use Rattle.desk.proofs.identification.follow.Goals.{In-Some}

-- the command and the answer at the place that is reached
turn : (c : In-Some) → (length c.loop-c.yielded < length c.args.w.now)
    × (c.in-Some.c.now ≡ get_or c.args.w.now (length c.loop-c.yielded) 0)
    × (c.in-Some.y.now ≡ get_or c.args.ys.now (length c.loop-c.yielded) 0)
turn c =
    let t =
    zip_turn c.args.w.now c.args.ys.now c.loop-c.yielded c.into_iter-c-iterator.result c.loop-c.c-iterator
    c.next.new.self c.next.result (search rules) (search rules) c.loop-c.yielded_by (c.in-Some.c, c.in-Some.y)
    c.in-Some.is c.next.ensures.steps in
    (t.0, t.2 0, t.3 0)

pub loop-c-init : goal.loop-c-init
loop-c-init c =
    let args = c.args in following_start (meaning args.m.now) args.w.now args.ys.now args.s c.requires

pub returns-then-answer_to-y : goal.returns-then-answer_to-y
returns-then-answer_to-y c =
    let args = c.args in
    let here = turn (goal.at.returns-then-answer_to-y c).In-Some in
    following_differs (meaning args.m.now) args.w.now args.ys.now args.s c.requires c.loop-c.invariant here.0
    (rw (← here.1) c.answer_to.ensures) here.2 c.if-answer_to-y.true

pub loop-c-preserved : goal.loop-c-preserved
loop-c-preserved c =
    let args = c.args in
    let here = turn (goal.at.loop-c-preserved c).In-Some in
    rw length-append
    (following_next (meaning args.m.now) args.w.now args.ys.now args.s c.requires c.loop-c.invariant here.0
    (rw (← here.1) c.answer_to.ensures) here.2 c.if-answer_to-y.false (rw (← here.1) c.next_state-state.ensures))
