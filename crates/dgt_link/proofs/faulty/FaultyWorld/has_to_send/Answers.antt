use Rattle.{std.{proofs.Common.{subst}, specs.Prelude.{◌↔◌, IsTrue, IsSome}}, dgt_board.specs.Sending.{next_message}, dgt_link.specs.View.{WorldView}}
use Rattle.dgt_link.proofs.faulty.FaultyWorld.has_to_send.Goals as goal

pub returns : goal.returns
returns c = subst
    (λ (world : WorldView). IsTrue c.owes.result ↔ IsSome
    (next_message world.board.state)) c.self.view_is c.owes.ensures
