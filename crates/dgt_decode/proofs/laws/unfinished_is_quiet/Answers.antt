use Rattle.dgt_decode.proofs.ChunkEvents.{unfinished_is_quiet}
use Rattle.dgt_decode.proofs.laws.unfinished_is_quiet.Goals as goal

pub returns : goal.returns
returns c = unfinished_is_quiet
