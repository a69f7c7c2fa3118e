use Rattle.std.proofs.Common.{◌≡◌, refl}
use Rattle.desk.proofs.Parts.{first_of, arrives_home, arrives_sends}
use Rattle.desk.proofs.desk.Desk.arrive.Goals as goal
use Rattle.desk.proofs.desk.Desk.arrive.Goals.{in-Some, in-None}

pub returns-then-state-start : goal.returns-then-state-start
returns-then-state-start c =
    arrives_home c.args.self c.args.state c.args.count c.if-state-start.true
    c.home.ensures

pub returns : goal.returns
returns c =
    let first : c.match-transfer.command ≡ first_of c.transfer.result = elim c.match-transfer.branch [
      | in-Some w ↦ rw w.in-Some.is w.command-is
      | in-None w ↦ rw w.in-None.is w.command-is
    ] in
    arrives_sends c.args.self c.args.state c.args.count c.if-state-start.false refl
    c.transfer.result c.transfer.ensures first
