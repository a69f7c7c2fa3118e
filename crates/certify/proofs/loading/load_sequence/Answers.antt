use Rattle.std.proofs.Common.{ℕ, ap, ◌∙◌, List}
use Rattle.sheet.specs.Check.{◌else◌, Check}
use Rattle.sheet.specs.Promise.{cause9}
use Rattle.sheet.specs.Check.Laws.{else_and}
use Rattle.sheet.specs.Reader.Laws.{sequence_read}
use Rattle.sheet.specs.Reader.{sequence_in}
use Rattle.machine.specs.Loading.Laws.{loaded_more}
use Rattle.certify.specs.Certification.{mark_bytes}
use Rattle.certify.specs.Certification.Laws.{marking_causes_are}
use Rattle.certify.proofs.loading.load_sequence.Goals as goal

pub returns : goal.returns
returns c =
    let room = c.args.room in
    let s = c.args.sheet.now in
    let loaded = c.load_sheet-loaded in
    loaded_more _ _ s loaded.ensures (cause9 room (mark_bytes (sequence_in s)))
    (marking_causes_are c.args.answers room s)
    (c.and-check.ensures ∙ else_and _ _
    ∙ ap (λ (x : Check). loaded.result.check else x)
    (c.room_check.ensures
    ∙ ap (λ (xs : List ℕ). cause9 room (mark_bytes xs))
    (sequence_read c.args.sheet c.payload-xs.result loaded.ensures.records c.payload-xs.ensures)))
