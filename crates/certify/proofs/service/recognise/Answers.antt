use Rattle.machine.specs.Machine.{meaning}
use Rattle.certify.proofs.Answering.{entries_tabled, few_tabled, word_close_required, marks_are, outcome_is}
use Rattle.certify.proofs.service.recognise.Goals as goal

pub close-known-requires : goal.close-known-requires
close-known-requires c =
    word_close_required c.args.w.now c.args.xs.now c.mark_words.ensures
    (meaning c.args.m.now) c.requires.proper c.requires.commands

pub open_check-check-requires-clause-entries_le_most_entries :
    goal.open_check-check-requires-clause-entries_le_most_entries
open_check-check-requires-clause-entries_le_most_entries c = few_tabled c.args.m.now c.requires.proper

pub returns : goal.returns
returns c =
    let words = c.mark_words.ensures in
    let closed = c.close-known.ensures in
    record {
      value = outcome_is (meaning c.args.m.now) c.args.w.now c.args.xs.now c.requires.proper c.requires.commands words
          closed (entries_tabled c.args.m.now) c.open_check-check.ensures c.count-recognised.ensures c.answer_of.ensures;
      marks_after = marks_are (meaning c.args.m.now) c.args.w.now c.args.xs.now c.requires.proper c.requires.commands
          words closed;
    }
