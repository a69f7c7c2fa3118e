use Rattle.sheet.specs.Format.{standard}
use Rattle.sheet.specs.Reader.Laws.{payload_content}
use Rattle.machine.specs.Causes.{word_causes}
use Rattle.machine.proofs.LoadChecks.{start_is, needed_made, needed_not}
use Rattle.machine.proofs.loading.needed_word.Goals as goal

pub returns-then-needed : goal.returns-then-needed
returns-then-needed c =
    needed_made word_causes c.if-needed.true c.requires.machine
    (start_is standard.word c.args.sheet.now c.requires.found c.record_or.ensures)
    (payload_content standard _ c.args.sheet c.payload.result c.requires.found
    c.payload.ensures)
    c.word_check.ensures

pub returns-else-needed : goal.returns-else-needed
returns-else-needed c = needed_not _ c.if-needed.false
