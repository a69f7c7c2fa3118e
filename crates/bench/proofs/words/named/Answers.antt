use Rattle.std.proofs.Common.{sym, ◌∙◌, arith}
use Rattle.bench.proofs.Naming.{row_taken, row_passed, rows_end}
use Rattle.bench.proofs.words.named.Goals as goal

pub returns-then-eq : goal.returns-then-eq
returns-then-eq c =
    c.counted.ensures
    ∙ row_taken _ _ _ _ c.loop-row-test.true (sym c.if-eq.ensures)
    ∙ sym c.loop-row.invariant

pub loop-row-preserved : goal.loop-row-preserved
loop-row-preserved c = c.loop-row.invariant ∙ row_passed _ _ _ _ c.loop-row-test.true (sym c.if-eq.ensures)

pub returns : goal.returns
returns c =
    c.wrong.ensures
    ∙ rows_end c.args.rows.now c.loop-row.row-index _ _ (omega arith)
    ∙ sym c.loop-row.invariant
