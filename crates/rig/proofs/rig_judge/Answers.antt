use Rattle.std.proofs.Common.{arith, ℕ, sym, ap, ◌∙◌, subst}
use Rattle.judge.specs.Judging.{values_of}
use Rattle.judge.proofs.JudgingBounds.{judgement_fits}
use Rattle.rig.specs.Result.{packed, RigIdentity}
use Rattle.rig.specs.Result.Laws.{number_identity}
use Rattle.facts.specs.Bytes.{Bytes}
use Rattle.rig.proofs.rig_judge.Goals as goal

pub pack-requires : goal.pack-requires
pack-requires c =
    let h = c.judge-answer.ensures.judges in
    rw (c.values_of.ensures, h.answer.is)
    (judgement_fits _ _
    (λ i. omega (arith, c.shared_slice_known-1.given i)))

pub returns : goal.returns
returns c =
    let s = c.args.sheet.now in
    let bytes : Bytes s = λ i. omega (arith, c.shared_slice_known-1.given i) in
    let h = c.judge-answer.ensures.judges in
    let number = c.pack.ensures ∙ ap packed (c.values_of.ensures ∙ ap values_of h.answer.is) in
    record {
      rig_judges = record { number = number; marks = h.marks };
      rig_identity = subst (λ (r : ℕ). RigIdentity s r) (sym number) (number_identity _ s bytes);
    }
