use Rattle.{std.proofs.Common.{◌≤◌, arith, length, rules}, dgt_link.proofs.Settling.{work_fits}}
use Rattle.dgt_link.proofs.faulty.FaultyWorld.work.Goals as goal

pub returns-clause-fits : goal.returns-clause-fits
returns-clause-fits c =
    work_fits c.args.self.now c.bounded_backlog.ensures.bound (search rules) (search rules)

pub returns-clause-few : goal.returns-clause-few
returns-clause-few c =
    let few = c.bounded_backlog.ensures.bound c.args.self.now.board.state in
    let owed : length c.args.self.now.board.state.owed ≤ 8 = search rules in
    omega (arith, few, owed)
