use Rattle.{std.proofs.Common.{◌≡◌, length, rules}, dgt_link.{specs.Act.{ActContent}, proofs.Counting.{plain_step}}}
use Rattle.dgt_link.proofs.faulty.FaultyWorld.take_all.Goals as goal

pub returns : goal.returns
returns c =
    let all : c.len-coming.result ≡ length c.args.self.now.down.bytes = search rules in
    rw (← all) (plain_step (ActContent.ToBoard c.len-coming.result) _ _ _ c.act.ensures)
