use Rattle.std.proofs.Common.{Ok, Some, ◌≡◌, ap, ◌∙◌}
use Rattle.sheet.specs.declared.record.Records.{Records}
use Rattle.report.specs.Output.Laws.{writes_same}
use Rattle.report.proofs.Listing.{HoldsFound, searched_output, found_holds}
use Rattle.report.proofs.sheets.word_sheet.Goals as goal
use Rattle.report.proofs.sheets.word_sheet.Goals.{In-Ok-Some}

-- the answer where a word was found, and what then holds
found : (c : In-Ok-Some) → c.find_word_with_records.result.0.answer ≡ Ok (Some c.in-Ok-Some.n)
found c = c.in-Ok-Some.is ∙ ap Ok (rw c.in-Ok-Some.is at c.in-Ok-Some.field-0-is)

holds : (c : In-Ok-Some)
    → HoldsFound c.args.sheet.now c.find_word_with_records.result.1.machine c.find_word_with_records.result.0.word
    c.in-Ok-Some.n
holds c =
    found_holds c.args.sheet.now c.find_word_with_records.ensures.searches (found c)
    (ap (λ (r : Records). r.machine) c.find_word_with_records.ensures.records_value)

pub slice_bounds-word-end : goal.slice_bounds-word-end
slice_bounds-word-end c = (holds (goal.at.slice_bounds-word-end c).In-Ok-Some).inside

pub slice_bounds-with_word-end : goal.slice_bounds-with_word-end
slice_bounds-with_word-end c = (holds (goal.at.slice_bounds-with_word-end c).In-Ok-Some).sized

pub with_word-requires : goal.with_word-requires
with_word-requires c = (holds (goal.at.with_word-requires c).In-Ok-Some).required

pub returns-in-Ok-Some : goal.returns-in-Ok-Some
returns-in-Ok-Some c =
    writes_same c.with_word.ensures
    (searched_output c.args.sheet.now c.find_word_with_records.ensures.searches
    (found (goal.at.returns-in-Ok-Some c).In-Ok-Some))

pub returns-in-Ok-None : goal.returns-in-Ok-None
returns-in-Ok-None c =
    writes_same c.without_word.ensures
    (searched_output c.args.sheet.now c.find_word_with_records.ensures.searches
    (c.in-Ok-None.is ∙ ap Ok (rw c.in-Ok-None.is at c.in-Ok-None.field-0-is)))

pub returns-in-Err : goal.returns-in-Err
returns-in-Err c =
    writes_same c.refused.ensures
    (searched_output c.args.sheet.now c.find_word_with_records.ensures.searches c.in-Err.is)
