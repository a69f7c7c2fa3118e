use Rattle.std.proofs.Common.{arith, refl}
use Rattle.certify.specs.Folding.{found, added}
use Rattle.certify.proofs.Alternatives.{rising_on}
use Rattle.certify.proofs.chains.Tables.advance.Goals as goal

pub invariant_of-self-clause-rising : goal.invariant_of-self-clause-rising
invariant_of-self-clause-rising c =
    let h = c.alternative-v.ensures in
    rising_on c.requires.alternatives_low c.args.self.now.rising h.path c.requires.r_low c.requires.t_in_bounds
    c.if-self-v.true (omega (arith, h.inside, c.args.self.now.few))

pub returns-then-self-v-clause-advanced : goal.returns-then-self-v-clause-advanced
returns-then-self-v-clause-advanced c =
    let h = c.alternative-v.ensures in added _ h.path c.if-self-v.true (h.last c.if-self-v.true) refl refl

pub returns-clause-advanced : goal.returns-clause-advanced
returns-clause-advanced c = found _ c.alternative-v.ensures.path c.if-self-v.false refl refl
