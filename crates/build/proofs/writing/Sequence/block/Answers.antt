use Rattle.std.proofs.Common.{refl}
use Rattle.build.proofs.Adds.{adds_append}
use Rattle.build.proofs.Rows.{adds_row}
use Rattle.build.proofs.Parts.{block_adds}
use Rattle.build.proofs.writing.Sequence.block.Goals as goal

pub returns : goal.returns
returns c =
    let self = c.args.self.now in
    block_adds self.ready c.args.s c.requires.low
    (adds_append self.word.now _ c.put-middle.ensures (adds_row self.rows.now c.args.s refl c.put.ensures))
