use Rattle.std.proofs.Common.{refl, sym, ◌∙◌, arith}
use Rattle.sheet.specs.Check.Laws.{hands_on}
use Rattle.sheet.specs.Format.{standard}
use Rattle.machine.specs.Causes.Lists.{table_loaded}
use Rattle.writer.specs.Parts.{lent_parts}
use Rattle.writer.proofs.Checking.{table_stops, machine_few, table_goes_on}
use Rattle.writer.proofs.parts.Parts.check.Goals as goal

pub returns-in_err-table_check : goal.returns-in_err-table_check
returns-in_err-table_check c =
    hands_on _ c.from_residual.ensures.1 ∙ sym c.in_err-table_check.was
    ∙ table_stops c.args.wanted (lent_parts c.args.self.now) c.table_check.ensures c.in_err-table_check.was

pub overflow_cast-next : goal.overflow_cast-next
overflow_cast-next c =
    omega (
      arith,
      machine_few c.args.wanted (lent_parts c.args.self.now)
          c.table_check.ensures c.in_ok-table_check.was,
    )

pub word_and_later-requires : goal.word_and_later-requires
word_and_later-requires c =
    omega (
      arith,
      machine_few c.args.wanted (lent_parts c.args.self.now)
          c.table_check.ensures c.in_ok-table_check.was,
    )

pub returns : goal.returns
returns c =
    let table = c.table_check.ensures in
    let clear = c.in_ok-table_check.was in
    table_goes_on c.args.wanted (lent_parts c.args.self.now) table clear
    (c.load-m.ensures ∙ table_loaded standard 0 c.args.self.now.machine.now (sym table ∙ clear)) refl
    c.word_and_later.ensures
