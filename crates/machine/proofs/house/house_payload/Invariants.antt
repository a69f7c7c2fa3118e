use Rattle.std.proofs.Common.{ℕ, ◌+◌, ◌-◌, ◌≤◌, ◌<◌, ◌≡◌, length, get_or}
use Rattle.sheet.specs.Format.{standard}
use Rattle.machine.specs.House.{house_payload}
use Rattle.machine.proofs.house.house_payload.Given as goal

abbrev pub invariant-loop-at : goal.invariant-loop-at
invariant-loop-at l =
    (l.at ≤ 32) × (length l.payload ≡ standard.table + 32)
    × ((j : ℕ) → j < standard.table + l.at → get_or l.payload j 0 ≡ get_or house_payload j 0)

abbrev pub decreases-loop-at : goal.decreases-loop-at
decreases-loop-at l = 32 - l.at
