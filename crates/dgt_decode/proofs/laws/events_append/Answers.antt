use Rattle.dgt_decode.proofs.Appending.{events-append}
use Rattle.dgt_decode.proofs.laws.events_append.Goals as goal

pub returns : goal.returns
returns c = events-append
