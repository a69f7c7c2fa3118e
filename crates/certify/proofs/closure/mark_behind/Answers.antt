use Rattle.std.proofs.Common.{◌≡◌, get_or, inl, inr, rules, arith}
use Rattle.std.proofs.lemmas.Grind.{common_steps}
use Rattle.std.proofs.lemmas.List.{places}
use Rattle.facts.specs.Numbers.{less_or_not}
use Rattle.certify.proofs.closure.mark_behind.Goals as goal

pub returns-in-Some : goal.returns-in-Some
returns-in-Some c =
    let first = c.in-Some.first in
    let marked : get_or c.args.marks.now first 0 ≡ 1 = grind (arith, common_steps) in
    record {
      long = grind (arith, common_steps);
      bits = grind (arith, common_steps);
      behind = grind (arith, common_steps);
      from = λ p e. elim (less_or_not p first) [
        | inl l ↦ (p, omega arith, search (rules, places))
        | inr l ↦ (first, l, marked)
      ];
    }
