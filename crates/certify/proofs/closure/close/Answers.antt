use Rattle.std.proofs.Common.{◌≤◌, ◌*◌, ◌∙◌, length, sym, get_or-take, length-take-le, arith}
use Rattle.certify.proofs.Answering.{entries_tabled, few_tabled}
use Rattle.certify.proofs.Known.{known_closed}
use Rattle.certify.proofs.Settling.{settling_starts, settling_sweep_required, settling_on}
use Rattle.certify.proofs.Settling.{settling_less, settled_closed}
use Rattle.certify.proofs.closure.close.Goals as goal
use Rattle.certify.proofs.closure.close.Goals.{After-sweep-changed}

-- the machine's entries are entries of the table
inside : (d : After-sweep-changed) → d.args.m.now.n * d.args.m.now.k ≤ length d.sweep-changed.new.known
inside d = omega (arith, few_tabled d.args.m.now d.requires.proper, d.sweep-changed.ensures.table)

pub loop-changed-init : goal.loop-changed-init
loop-changed-init c = settling_starts c.requires

pub sweep-changed-requires : goal.sweep-changed-requires
sweep-changed-requires c = settling_sweep_required c.loop-changed.invariant

pub slice_bounds-known-end : goal.slice_bounds-known-end
slice_bounds-known-end c = inside (goal.at.slice_bounds-known-end c).After-sweep-changed

pub slice_bounds-all_known-end : goal.slice_bounds-all_known-end
slice_bounds-all_known-end c =
    sym (length-take-le _ c.sweep-changed.new.known (inside (goal.at.slice_bounds-all_known-end c).After-sweep-changed))

pub returns-then-all_known : goal.returns-then-all_known
returns-then-all_known c =
    let h = settling_on c.loop-changed.invariant c.sweep-changed.ensures in
    let known = c.sweep-changed.new.known in
    let few = inside (goal.at.returns-then-all_known c).After-sweep-changed in
    known_closed h (entries_tabled c.args.m.now)
    (λ e l z. c.all_known.ensures c.if-all_known.true e (rw (length-take-le _ known few) l) (get_or-take _ known e 0 l ∙ z))
    c.mark_behind.ensures

pub loop-changed-smaller : goal.loop-changed-smaller
loop-changed-smaller c =
    settling_less c.loop-changed.invariant
    c.sweep-changed.ensures
    c.loop-changed-test.true

pub loop-changed-preserved : goal.loop-changed-preserved
loop-changed-preserved c =
    settling_on c.loop-changed.invariant
    c.sweep-changed.ensures

pub returns : goal.returns
returns c = settled_closed c.loop-changed.invariant c.loop-changed-test.false
