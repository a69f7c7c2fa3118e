use Rattle.std.proofs.Common.{◌≡◌, length, arith, refl, sym}
use Rattle.machine.specs.Limits.{most_sequence}
use Rattle.machine.specs.Machine.Laws.{meaning_commands, meaning_start, tabled_next}
use Rattle.certify.proofs.Alternatives.{rising_none}
use Rattle.certify.proofs.Loop.{starts, running_merge_required, running_next_required, running_ends, running_entry}
use Rattle.certify.proofs.Loop.{turns}
use Rattle.certify.proofs.sweep.sweep.Goals as goal

pub invariant_of-tables : goal.invariant_of-tables
invariant_of-tables c = record {
  few = c.requires.close_requires.commands.few;
  rising = rising_none _ most_sequence;
}

pub loop-t-init : goal.loop-t-init
loop-t-init c = record { same_xs = refl; running = starts c.requires (sym (meaning_start c.args.m.now)) }

pub merge-q-requires : goal.merge-q-requires
merge-q-requires c =
    let head = c.loop-t.invariant in rw head.same_xs (running_merge_required head.running)

pub learn-changed-requires-clause-e_lt_most_entries : goal.learn-changed-requires-clause-e_lt_most_entries
learn-changed-requires-clause-e_lt_most_entries c =
    running_entry c.loop-t.invariant.running c.loop-t-test.true (meaning_commands c.args.m.now) c.entry_at-e.ensures

pub represent_next-cur-requires : goal.represent_next-cur-requires
represent_next-cur-requires c =
    let head = c.loop-t.invariant in
    rw head.same_xs
    (running_next_required head.running c.loop-t-test.true (meaning_commands c.args.m.now) c.entry_at-e.ensures
    (rw head.same_xs at c.merge-q.ensures) c.learn-changed.ensures)

pub bounds-m-e : goal.bounds-m-e
bounds-m-e c =
    running_entry c.loop-t.invariant.running c.loop-t-test.true (meaning_commands c.args.m.now) c.entry_at-e.ensures

pub loop-t-preserved : goal.loop-t-preserved
loop-t-preserved c =
    let m = c.args.m.now in
    let head = c.loop-t.invariant in
    let next = c.represent_next-cur.ensures in
    record {
      same_xs = rw next.same_xs head.same_xs;
      running =
          turns head.running c.loop-t-test.true (meaning_commands m) c.entry_at-e.ensures
          (rw head.same_xs at c.merge-q.ensures) c.learn-changed.ensures
          (rw head.same_xs at next.next)
          (tabled_next m.n m.k m.start m.next m.answer _ _ refl c.entry_at-e.ensures);
    }

pub merge-q-requires-2 : goal.merge-q-requires-2
merge-q-requires-2 c =
    let head = c.loop-t.invariant in
    let e : c.loop-t.t ≡ length c.args.xs.now = omega (arith, c.loop-t-test.false) in
    rw head.same_xs (running_merge_required (rw e at head.running))

pub returns : goal.returns
returns c =
    let head = c.loop-t.invariant in
    let e : c.loop-t.t ≡ length c.args.xs.now = omega (arith, c.loop-t-test.false) in
    running_ends (rw e at head.running) (omega arith) (rw head.same_xs at c.merge-q-2.ensures)
