use Rattle.std.proofs.Common.{◌+◌, ◌≤◌}
use Rattle.cases.proofs.lines.Runner.answer_lines.Given as goal

abbrev pub invariant-loop-ended : goal.invariant-loop-ended
invariant-loop-ended l =
    (goal.iterator-loop-ended).can_next l.ended-iterator × (goal.iterator-loop-ended).is_finite l.ended-iterator ×
    (l.cases + (goal.iterator-loop-ended).remaining l.ended-iterator ≤
    (goal.iterator-loop-ended).remaining l.initial.ended-iterator)
