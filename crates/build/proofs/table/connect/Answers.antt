use Rattle.std.proofs.Common.{refl, sym, ap, ◌∙◌, arith}
use mathlib.Core.Option.{some}
use Rattle.facts.specs.Numbers.{below_same, not_below_same}
use Rattle.sheet.specs.Check.Laws.{clear_refused}
use Rattle.machine.specs.Machine.{meaning}
use Rattle.machine.specs.Machine.Laws.{meaning_states}
use Rattle.build.specs.Transfer.{transfer_in}
use Rattle.build.proofs.Connecting.{connecting_start, connecting_stops, size_low, connecting_on}
use Rattle.build.proofs.Connecting.{connecting_clear, connecting_filled}
use Rattle.build.proofs.table.connect.Goals as goal

pub loop-s-init : goal.loop-s-init
loop-s-init c = connecting_start (meaning c.args.m.now) c.args.w.now c.args.rows.now (omega arith)

pub returns-in_default : goal.returns-in_default
returns-in_default c =
    let states = sym (meaning_states c.args.m.now) in
    record {
      value = connecting_stops (meaning c.args.m.now) c.args.w.now c.loop-s.s
          c.word_end-from.result c.following.result states
          c.word_end-from.ensures
          c.following.ensures c.transfer.ensures c.loop-s.invariant
          (below_same states c.loop-s-test.true) (ap transfer_in c.in_default.is);
      filled = λ e. clear_refused e refl;
    }

pub store-requires : goal.store-requires
store-requires c =
    let states = sym (meaning_states c.args.m.now) in
    record {
      s_lt_most_states = omega (arith, below_same states c.loop-s-test.true, c.requires.few_states);
      size_lt_row_size = size_low (meaning c.args.m.now) c.args.w.now c.loop-s.s
          c.word_end-from.result c.following.result states
          c.word_end-from.ensures c.following.ensures c.transfer.ensures
          c.loop-s.invariant (below_same states c.loop-s-test.true) c.requires
          (ap transfer_in c.in-Some.is ∙ ap some (sym c.as_slice.ensures));
    }

pub loop-s-preserved : goal.loop-s-preserved
loop-s-preserved c =
    let states = sym (meaning_states c.args.m.now) in
    connecting_on (meaning c.args.m.now) c.args.w.now c.loop-s.s
    c.word_end-from.result c.following.result states
    c.word_end-from.ensures
    c.following.ensures c.transfer.ensures c.loop-s.invariant
    (below_same states c.loop-s-test.true) c.requires
    (ap transfer_in c.in-Some.is ∙ ap some (sym c.as_slice.ensures)) c.store.ensures

pub returns : goal.returns
returns c =
    let l = not_below_same (sym (meaning_states c.args.m.now)) c.loop-s-test.false in
    record {
      value = connecting_clear (meaning c.args.m.now) c.args.w.now _ c.loop-s.invariant l;
      filled = λ e. connecting_filled (meaning c.args.m.now) c.args.w.now _ c.loop-s.invariant l;
    }
