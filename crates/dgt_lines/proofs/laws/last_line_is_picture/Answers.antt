use Rattle.dgt_lines.proofs.PictureLemmas.{last_line_is_picture}
use Rattle.dgt_lines.proofs.laws.last_line_is_picture.Goals as goal

pub returns : goal.returns
returns c = last_line_is_picture
