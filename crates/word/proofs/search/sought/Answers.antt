use Rattle.std.proofs.Common.{ap, ◌∙◌, arith, length}
use Rattle.word.specs.Search.{unmet}
use Rattle.word.specs.Search.Pairs.{all_unmet}
use Rattle.word.proofs.Moving.{all_few}
use Rattle.word.proofs.Lengths.{few_states, search_found, search_none}
use Rattle.word.proofs.search.sought.Goals as goal

pub all_pairs-pairs-requires : goal.all_pairs-pairs-requires
all_pairs-pairs-requires c = few_states c.args.m.now c.requires

pub first_word-requires : goal.first_word-requires
first_word-requires c =
    let all = c.deref.ensures.0 ∙ c.all_pairs-pairs.ensures in
    let few = few_states c.args.m.now c.requires in
    record {
      behind = record {
        pairs_few = omega (arith, ap length all, all_few c.args.m.now.n few);
        some = omega arith;
        few = omega arith;
      };
      apart = ap unmet all ∙ all_unmet c.args.m.now.n (omega (arith, few));
    }

pub returns-in-Some : goal.returns-in-Some
returns-in-Some c =
    let all = c.deref.ensures.0 ∙ c.all_pairs-pairs.ensures in
    search_found c.args.m.now (omega arith) (omega arith) c.loop-length.invariant (rw all at c.in-Some.ensures)

pub returns : goal.returns
returns c = search_none c.args.m.now (λ i l. c.loop-length.invariant i (omega (arith, c.loop-length-test.false)))
