use Rattle.std.proofs.Common.{sym}
use Rattle.facts.specs.Numbers.{below_same}
use Rattle.machine.specs.Machine.Laws.{meaning_states}
use Rattle.build.proofs.Parts.{command_room, led_low, led_required, test_moves}
use Rattle.build.proofs.writing.Sequence.test.Goals as goal

pub put-tested-requires : goal.put-tested-requires
put-tested-requires c =
    command_room c.args.self.now.ready c.requires.part_requires c.requires.s_bound c.requires.c_bound
    c.approach-reached.ensures

pub block-at-requires : goal.block-at-requires
block-at-requires c =
    led_required c.args.self.now.ready c.requires.part_requires c.requires.s_bound c.requires.c_bound
    c.next_state-t.ensures c.approach-reached.ensures c.put-tested.ensures

pub following-state-requires : goal.following-state-requires
following-state-requires c =
    below_same (meaning_states c.args.self.now.machine)
    (led_low c.args.self.now.ready c.requires.part_requires c.requires.s_bound c.requires.c_bound
    c.next_state-t.ensures)

pub returns : goal.returns
returns c =
    test_moves c.args.self.now.ready c.requires.part_requires c.requires.s_bound c.requires.c_bound
    (sym (meaning_states c.args.self.now.machine)) c.next_state-t.ensures c.following-state.ensures
    c.approach-reached.ensures c.put-tested.ensures c.block-at.ensures
