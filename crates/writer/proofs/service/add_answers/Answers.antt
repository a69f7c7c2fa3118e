use Rattle.std.proofs.Common.{ℕ, ◌≡◌, ap, List}
use Rattle.sheet.specs.declared.parse.Reading.{Reading}
use Rattle.sheet.specs.Check.Laws.{hands_on}
use Rattle.sheet.specs.Reader.Laws.{machine_read, word_read, sequence_read}
use Rattle.writer.specs.Parts.{parts_of}
use Rattle.writer.proofs.Answering.{sheet_refused, added}
use Rattle.writer.proofs.service.add_answers.Goals as goal

pub returns-in_err-reading : goal.returns-in_err-reading
returns-in_err-reading c =
    rw (hands_on _ c.from_residual.ensures.1)
    (sheet_refused c.args.sheet.now c.args.answers.now c.args.buffer.now
    (ap (λ (r : Reading). r.check) c.read_sheet-reading.ensures) c.in_err-reading.was)

-- the same parts
parts_same : {m n w u xs zs : List ℕ} (ys : List ℕ) → m ≡ n → w ≡ u → xs ≡ zs → parts_of m w xs ys ≡ parts_of n u zs ys
parts_same ys e f g = rw (e, f, g)

pub returns : goal.returns
returns c =
    let sheet = c.args.sheet in
    let reads = c.read_sheet-reading.ensures in
    let records = ap (λ (r : Reading). r.records) reads in
    added sheet.now c.args.answers.now c.args.buffer.now (ap (λ (r : Reading). r.check) reads)
    c.in_ok-reading.was
    (parts_same c.args.answers.now
    (machine_read sheet c.payload-machine.result records c.payload-machine.ensures)
    (word_read sheet c.payload-word.result records c.payload-word.ensures)
    (sequence_read sheet c.payload-sequence.result records c.payload-sequence.ensures))
    c.write.ensures
