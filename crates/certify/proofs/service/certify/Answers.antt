use Rattle.sheet.specs.Check.Laws.{hands_on}
use Rattle.certify.proofs.Answering.{certifies_refused}
use Rattle.certify.proofs.service.certify.Goals as goal

pub returns-in_err-loaded : goal.returns-in_err-loaded
returns-in_err-loaded c =
    rw (hands_on _ c.from_residual.ensures.1)
    (certifies_refused c.args.sheet.now c.args.marks.now c.load_sequence-loaded.ensures.check c.in_err-loaded.was)
