use Rattle.std.proofs.Common.{◌<◌, ◌≤◌, length, MatchOption}
use Rattle.cases.proofs.reader.Reader.number.Given as goal

abbrev pub invariant-loop-self : goal.invariant-loop-self
invariant-loop-self l = MatchOption l.value
    (length l.self.rest.now ≤ length l.initial.self.rest.now)
    (λ n. (n ≤ l.most) × (length l.self.rest.now < length l.initial.self.rest.now))

abbrev pub decreases-loop-self : goal.decreases-loop-self
decreases-loop-self l = length l.self.rest.now
