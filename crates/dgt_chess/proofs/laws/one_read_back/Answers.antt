use Rattle.dgt_chess.proofs.FenAgain.{read_back_parsed, read_back_written}
use Rattle.dgt_chess.proofs.laws.one_read_back.Goals as goal

pub returns-clause-parsed : goal.returns-clause-parsed
returns-clause-parsed c = read_back_parsed c.written_text_is_accepted.ensures

pub returns-clause-again : goal.returns-clause-again
returns-clause-again c = read_back_written
