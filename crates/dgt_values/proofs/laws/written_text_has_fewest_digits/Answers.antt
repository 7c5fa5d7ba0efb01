use Rattle.dgt_values.proofs.Written.{fewest_digits}
use Rattle.dgt_values.proofs.laws.written_text_has_fewest_digits.Goals as goal

pub returns : goal.returns
returns c = fewest_digits
