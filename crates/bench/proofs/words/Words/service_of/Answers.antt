use Rattle.std.proofs.Common.{ap₂, ◌∙◌, map}
use Rattle.bench.specs.Words.{unless_unfit}
use Rattle.bench.proofs.Naming.{words_none, words_more, slice_at}
use Rattle.bench.proofs.words.Words.service_of.Goals as goal

pub returns-then-self-eq0 : goal.returns-then-self-eq0
returns-then-self-eq0 c =
    let words = c.args.self.now in
    c.on_sheet.ensures ∙ words_none words.count (map (λ x. x.now) words.first) c.if-self-eq0.true

pub returns : goal.returns
returns c =
    let words = c.args.self.now in
    c.unless_unfit.ensures
    ∙ ap₂ unless_unfit (slice_at words.first 0) c.named.ensures
    ∙ words_more words.count (map (λ x. x.now) words.first) c.if-self-eq0.false
