use Rattle.{std.proofs.Common.{sym}, dgt_c.proofs.EncodingLemmas.{are_pieces}}
use Rattle.dgt_c.proofs.chess_states.read_parts.Goals as goal

pub returns-in_err-position : goal.returns-in_err-position
returns-in_err-position c =
    rw c.from_residual.ensures
    (λ h. c.in_err-position.ensures (are_pieces h.0 _ (sym h.6.pieces_said)))
