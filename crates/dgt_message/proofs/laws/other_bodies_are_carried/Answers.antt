use Rattle.dgt_message.proofs.OtherBodies.{other_body}
use Rattle.dgt_message.proofs.laws.other_bodies_are_carried.Goals as goal

pub returns : goal.returns
returns c = other_body
