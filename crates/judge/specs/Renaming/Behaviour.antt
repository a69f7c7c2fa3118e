-- What a renaming says of the answers that the unit gives to any commands of the sheet: in u it answers as the machine
-- does from the start, and where it stands now as from the end state on. What it does in each of its states follows
-- from the isomorphism (machine's Unit.Laws).
use Rattle.std.specs.Prelude.{ℕ, ◌<◌, ◌≡◌, List, length}
use Rattle.facts.specs.Lists.{Below}
use Rattle.machine.specs.Limits.{most_sequence}
use Rattle.machine.specs.Machine.{Mealy, answers, Proper, Commands}
use Rattle.machine.specs.Machine.Laws.{state_stays}
use Rattle.machine.specs.Unit.{Unit, table_of, present_state}
use Rattle.machine.specs.Unit.Laws.{assigned_alike}
use Rattle.judge.specs.Renaming.{Renaming}

module _ (M : Mealy) (proper : Proper M) (U : Unit M.n M.k) (xs : List ℕ) (end : ℕ)
    (r : Renaming M U xs end) where
  -- the unit as a machine
  abbrev unit : Mealy
  unit = table_of M.n M.k U

  -- in the state in which it stood when the first command went in, as from the start
  pub start_alike : (ys : List ℕ) → Below M.k ys → answers unit U.u ys ≡ answers M M.start ys
  start_alike ys b =
      rw r.start_assigned at (assigned_alike M proper U r.isomorphism ys M.start proper.starts b)

  -- in the state in which it stands now, as from the end state on
  pub end_alike : Commands most_sequence M.k xs → (ys : List ℕ) → Below M.k ys
      → answers unit (present_state M.n M.k U xs) ys ≡ answers M end ys
  end_alike h ys b =
      let low : end < M.n = rw r.end_is (state_stays M proper xs h.low (length xs)) in
      rw r.end_assigned at (assigned_alike M proper U r.isomorphism ys end low b)
