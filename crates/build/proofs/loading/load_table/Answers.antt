use Rattle.sheet.specs.Check.Laws.{clear_refused}
use Rattle.sheet.specs.Reader.Laws.{word_read}
use Rattle.machine.specs.Loading.Laws.{loaded_proper}
use Rattle.build.specs.Building.{build_needs}
use Rattle.build.proofs.TableLoading.{early_connected, eight_connected}
use Rattle.build.proofs.loading.load_table.Goals as goal

pub returns-in-Err : goal.returns-in-Err
returns-in-Err c = record {
  loaded_by = early_connected c.args.sheet.now c.load_sheet-loaded.ensures c.in-Err.is;
  filled = λ e. clear_refused e c.in-Err.is;
}

pub connect-requires : goal.connect-requires
connect-requires c =
    loaded_proper build_needs c.args.sheet.now c.load_sheet-loaded.ensures c.in-Ok.is

pub returns-in-Ok : goal.returns-in-Ok
returns-in-Ok c =
    let same = word_read c.args.sheet c.payload.result c.load_sheet-loaded.ensures.records c.payload.ensures in
    record {
      loaded_by = eight_connected c.args.sheet.now c.load_sheet-loaded.ensures c.in-Ok.is same c.connect.ensures.value;
      filled = λ e. rw (← same) (c.connect.ensures.filled e);
    }
