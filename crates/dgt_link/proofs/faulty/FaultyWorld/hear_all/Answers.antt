use Rattle.{std.proofs.Common.{◌≡◌, length, rules}, dgt_link.{specs.Act.{ActContent}, proofs.Counting.{plain_step}}}
use Rattle.dgt_link.proofs.faulty.FaultyWorld.hear_all.Goals as goal

pub returns : goal.returns
returns c =
    let all : c.len-waiting.result ≡ length c.args.self.now.up.bytes = search rules in
    rw (← all) (plain_step (ActContent.ToHost c.len-waiting.result) _ _ _ c.act.ensures)
