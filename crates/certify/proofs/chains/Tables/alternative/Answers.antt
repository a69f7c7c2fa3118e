use Rattle.std.proofs.Common.{refl}
use Rattle.certify.specs.Folding.{here}
use Rattle.certify.proofs.Alternatives.{along_on}
use Rattle.certify.proofs.chains.Tables.alternative.Goals as goal

pub loop-v-init : goal.loop-v-init
loop-v-init c = record { inside = c.requires; path = here refl }

pub loop-v-preserved : goal.loop-v-preserved
loop-v-preserved c =
    along_on c.loop-v.invariant c.args.self.now.rising c.from-u.ensures c.if-u-eq0.false c.loop-v-test.true
