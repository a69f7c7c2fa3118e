use Rattle.sheet.specs.Writing.{header_of}
use Rattle.sheet.proofs.writing.header_of.Goals as goal

pub returns : goal.returns
unfolding header_of
returns c = rw (c.to_le_bytes.ensures, c.to_le_bytes-2.ensures)
