use Rattle.dgt_decode.proofs.ChunkEvents.{in_a_row, pieces_add}
use Rattle.dgt_decode.proofs.laws.chunks_in_a_row.Goals as goal

pub returns-clause-add : goal.returns-clause-add
returns-clause-add c = pieces_add

pub returns-clause-any : goal.returns-clause-any
returns-clause-any c = in_a_row
