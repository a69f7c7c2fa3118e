use Rattle.machine.specs.Loading.Laws.{loaded_proper}
use Rattle.word.specs.Service.{search_needs}
use Rattle.word.proofs.Answering.{early_refused, searched}
use Rattle.word.proofs.service.find_word_with_records.Goals as goal
use Rattle.word.proofs.service.find_word_with_records.Goals.{in-Ok, in-Err}

pub shortest_word-searched-requires : goal.shortest_word-searched-requires
shortest_word-searched-requires c =
    loaded_proper search_needs c.args.sheet.now c.load_sheet-loaded.ensures c.in-Ok.is

pub returns : goal.returns
returns c =
    let loaded = c.load_sheet-loaded in
    record {
      searches = elim c.match-loaded.branch [
        | in-Ok w ↦ rw w.searched-is
            (searched c.args.sheet.now loaded.result loaded.ensures w.in-Ok.is w.shortest_word-searched.ensures)
        | in-Err w ↦ rw w.searched-is
            (early_refused c.args.sheet.now loaded.result loaded.ensures w.in-Err.is)
      ];
      records_value = loaded.ensures.records;
    }
