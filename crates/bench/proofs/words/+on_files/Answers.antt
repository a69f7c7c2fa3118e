use Rattle.bench.proofs.Naming.{files_none, files_more}
use Rattle.bench.proofs.words.+on_files.Goals as goal

pub returns-in-empty : goal.returns-in-empty
returns-in-empty t c = files_none _ _ c.in-empty.len_below

pub returns-in-len1-up : goal.returns-in-len1-up
returns-in-len1-up t c = files_more _ _ c.in-len1-up.len_at_least c.unless_unfit.ensures c.on_files.ensures
