use Rattle.dgt_text.proofs.ClosingLemmas.{closing_lines-agree}
use Rattle.dgt_text.proofs.laws.closing_lines_agree.Goals as goal

pub returns : goal.returns
returns c = closing_lines-agree
