use Rattle.dgt_chess.proofs.FenReads.{read_back}
use Rattle.dgt_chess.proofs.laws.written_fen_reads_back.Goals as goal

pub returns : goal.returns
returns c =
    read_back c.one_position_a_placement.ensures c.written_text_is_accepted.ensures
    c.refused_are_impossible.ensures
