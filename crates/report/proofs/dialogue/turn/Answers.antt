use Rattle.std.proofs.Common.{refl, ◌≡◌}
use Rattle.report.specs.Dialogue.{turn_output}
use Rattle.report.proofs.Making.{writes_output, writes_error}
use Rattle.report.proofs.Conversing.{unmade, turns_by}
use Rattle.report.proofs.dialogue.turn.Goals as goal

pub returns-in-Answer : goal.returns-in-Answer
unfolding turn_output
returns-in-Answer c =
    turns_by _ _ _ _ _ c.in-Answer.ensures c.step-stepped.result
    (λ y q. let e : c.in-Answer.value ≡ y = cc in rw (← e) c.step-stepped.ensures)
    refl refl c.is_end.ensures (writes_output _ refl c.to_output.ensures c.order_line.ensures)

pub returns-in-Other : goal.returns-in-Other
unfolding turn_output
returns-in-Other c =
    turns_by _ _ _ _ _ c.in-Other.ensures (unmade c.args.desk) (λ y q. cc)
    refl c.saturating_sub.ensures refl (writes_error _ refl c.to_error.ensures c.others_line.ensures)

pub returns-in-Long : goal.returns-in-Long
unfolding turn_output
returns-in-Long c =
    turns_by _ _ _ _ _ c.in-Long.ensures (unmade c.args.desk) (λ y q. cc)
    refl refl refl (writes_error _ refl c.to_error-in-Long.ensures c.stop_line.ensures)
