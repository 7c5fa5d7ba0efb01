use Rattle.dgt_values.proofs.Written.{written_placement}
use Rattle.dgt_values.proofs.laws.written_text_is_accepted.Goals as goal

pub returns : goal.returns
returns c = written_placement
