use Rattle.dgt_lines.proofs.Pictured.{pictured_on}
use Rattle.dgt_lines.proofs.picture_chunks.PicturesPrinterPICTURES_ROOM.lines_go_on.Goals as goal

pub returns : goal.returns
returns c = λ first now bytes text more printed are.
    pictured_on printed c.chunks_in_a_row.ensures.add more
