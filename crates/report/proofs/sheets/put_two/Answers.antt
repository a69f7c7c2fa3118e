use Rattle.std.proofs.Common.{arith, ℕ, List, [], ◌∷◌}
use Rattle.sheet.specs.Format.{standard}
use Rattle.sheet.specs.Joining.{fresh}
use Rattle.sheet.specs.Joining.Laws.{record_ends}
use Rattle.report.proofs.Putting.{next_long, next_more, next_last}
use Rattle.report.proofs.sheets.put_two.Goals as goal

pub put_role-requires : goal.put_role-requires
put_role-requires c =
    let put = c.put_record.ensures in
    record {
      short = omega (arith, c.requires.short);
      room = omega (
        arith,
        record_ends (c.args.kind, c.args.machine.now) put.puts,
        next_long put,
        c.requires.short,
        c.requires.room,
      );
    }

pub returns : goal.returns
returns c =
    let machine : ℕ × List ℕ = (c.args.kind, c.args.machine.now) in
    let word = fresh standard.word c.args.word.now in
    let first = c.put_record.ensures in
    let second = c.put_role.ensures in
    record {
      next = next_more machine (word ∷ []) first (next_last word second);
      value = omega (arith, record_ends machine first.puts, record_ends word second.puts);
    }
