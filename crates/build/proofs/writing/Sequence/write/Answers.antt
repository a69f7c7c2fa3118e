use Rattle.build.proofs.Parts.{tests_required, sequence_written}
use Rattle.build.proofs.writing.Sequence.write.Goals as goal

pub tests-requires : goal.tests-requires
tests-requires c = tests_required c.args.self.now.ready c.opening-opened.ensures

pub returns : goal.returns
returns c = sequence_written c.args.self.now.ready c.opening-opened.ensures c.tests.ensures
