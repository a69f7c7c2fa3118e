use Rattle.std.proofs.Common.{ap, ◌∙◌, rules}
use Rattle.sheet.specs.Check.Laws.{hands_on}
use Rattle.sheet.specs.Format.{rank}
use Rattle.sheet.specs.Format.Laws.{records_same}
use Rattle.sheet.proofs.Parsing.{head_start, head_end, head_stop, turn_next}
use Rattle.sheet.proofs.parse.parse.Goals as goal

pub loop-at-init : goal.loop-at-init
loop-at-init c =
    let none = c.default-records.ensures in
    head_start _ (records_same none.0 none.1.0 none.1.1.0 none.1.1.1)

pub returns-in_err-check_record : goal.returns-in_err-check_record
returns-in_err-check_record c =
    hands_on _ c.from_residual.ensures.1
    ∙ head_stop c.loop-at.invariant c.requires (search rules) c.record_at-r.ensures c.check_record.ensures
    c.in_err-check_record.was

pub loop-at-preserved : goal.loop-at-preserved
loop-at-preserved c = turn_next c.loop-at.invariant (record {
  more = c.loop-at-test.true;
  reads = c.record_at-r.ensures;
  checks = c.check_record.ensures;
  clear = c.in_ok-check_record.was;
  takes = c.with_record-records.ensures;
  ranks = c.rank-last.ensures ∙ ap rank c.from.ensures;
})

pub returns : goal.returns
returns c = head_end c.loop-at.invariant c.requires (search rules)
