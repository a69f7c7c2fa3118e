-- What a run of the bench writes (§8.2): the bytes for standard output and those for standard error; and what the
-- functions promise that make them in a lent buffer. The laws stand in Output.Laws.
use Rattle.std.specs.Prelude.{Err}
use Rattle.std.specs.Prelude.{ℕ, ◌≡◌, List, [], ◌++◌, length}
use Rattle.io.specs.Counts.{IsPrefixLen}
use Rattle.sheet.specs.Check.{Check, Clear}
use Rattle.sheet.specs.Promise.{Writes as Promise, Answer, Written as WrittenAnswer}
use Rattle.report.specs.declared.output.Written.{Written}
use Rattle.report.specs.Lines.{refusal_line}
pub mod Laws

-- the bytes for standard output and those for standard error
pub record Output : Type 0 where
  pub out : List ℕ
  pub err : List ℕ

-- bytes for standard output, and none for standard error
abbrev pub on_output : List ℕ → Output
on_output xs = record { out = xs; err = [] }

-- bytes for standard error, and none for standard output
abbrev pub on_error : List ℕ → Output
on_error xs = record { out = []; err = xs }

-- a service that tells a refusal on standard error (§8.2): its line there, and else what is written
abbrev pub output_unless : Check → Output → Output
output_unless Clear o = o
output_unless (Err r) o = on_error (refusal_line r.number r.place)

-- one whose result is bytes: these to standard output
abbrev pub bytes_unless : Check → List ℕ → Output
bytes_unless c xs = output_unless c (on_output xs)

-- both in the lent buffer, the bytes for standard error after those for standard output, by the promise of what is
-- written (§4.3, §4.4), nothing being refused; and where each of the two ends, which is within the buffer
pub record Writes (o : Output) (before after : List ℕ) (r : Written) : Type 0 where
  pub out : r.out ≡ length o.out
  pub promise : Promise Clear (o.out ++ o.err) before after (WrittenAnswer r.end)
  pub counts : IsPrefixLen r.end after

-- what is told of the answer of a service that wrote into the lent buffer: the bytes there go to standard output, and
-- nothing is changed; or the line of its refusal goes to standard error
abbrev pub Tells : Answer → List ℕ → List ℕ → Written → Type 0
Tells (WrittenAnswer size) before after r = (r ≡ record { out = size; end = size }) × (after ≡ before)
Tells (Err refusal) before after r = Writes (on_error (refusal_line refusal.number refusal.place)) before after r
