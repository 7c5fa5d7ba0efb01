use Rattle.{std.proofs.Common.{rules}, dgt_c.proofs.ChessLemmas.{only_move}}
use Rattle.dgt_c.proofs.chess_states.read_move.Goals as goal

pub returns : goal.returns
returns c = only_move _ _ (search rules)
