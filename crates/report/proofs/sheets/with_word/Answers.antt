use Rattle.std.proofs.Common.{arith, ℕ, ap, ap₂, ◌∙◌, List, [], ◌∷◌, length}
use Rattle.sheet.specs.declared.record.Record.{Record}
use Rattle.sheet.specs.Format.{standard}
use Rattle.sheet.specs.Reader.Laws.{payload_content, record_is}
use Rattle.sheet.specs.Joining.{joined, fresh}
use Rattle.report.specs.Sheets.{word_sheet}
use Rattle.report.proofs.Putting.{next_same, next_long}
use Rattle.report.proofs.Listing.{word_written, word_line_lem}
use Rattle.report.proofs.sheets.with_word.Goals as goal

pub put_two-requires-clause-short : goal.put_two-requires-clause-short
put_two-requires-clause-short c =
    let payload = payload_content standard _ c.args.sheet c.payload.result c.requires.found c.payload.ensures in
    omega (arith, ap length payload)

-- the records leave room for the line
pub put-requires : goal.put-requires
put-requires c =
    let payload = payload_content standard _ c.args.sheet c.payload.result c.requires.found c.payload.ensures in
    omega (arith, ap length payload, ap length c.new-both.ensures.bytes, next_long c.put_two.ensures.next)

pub put_list-requires : goal.put_list-requires
put_list-requires c =
    let payload = payload_content standard _ c.args.sheet c.payload.result c.requires.found c.payload.ensures in
    omega (
      arith,
      ap length payload,
      ap length c.new-both.ensures.bytes,
      next_long c.put_two.ensures.next,
      next_long c.put.ensures,
    )

pub put-requires-2 : goal.put-requires-2
put-requires-2 c =
    let payload = payload_content standard _ c.args.sheet c.payload.result c.requires.found c.payload.ensures in
    omega (
      arith,
      ap length payload,
      ap length c.new-both.ensures.bytes,
      next_long c.put_two.ensures.next,
      next_long c.put.ensures,
      next_long c.put_list.ensures.next,
    )

pub returns : goal.returns
unfolding word_sheet
returns c =
    let w = c.args.word.now in
    word_written c.args.sheet.now w c.args.out.now c.new-both.ensures.bytes c.new-both.ensures.end
    (next_same
    (ap₂ (λ (kind : ℕ) (p : List ℕ). joined ((kind, p) ∷ fresh standard.word w ∷ []))
    (ap (λ (r : Record). r.kind) (c.record_or.ensures ∙ record_is standard _ _ c.requires.found))
    (payload_content standard _ c.args.sheet c.payload.result c.requires.found c.payload.ensures))
    c.put_two.ensures.next)
    (word_line_lem w c.put.ensures c.put_list.ensures.next c.put-2.ensures)
