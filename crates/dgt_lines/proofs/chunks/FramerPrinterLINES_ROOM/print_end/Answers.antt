use Rattle.std.proofs.Common.{rules}
use Rattle.dgt_lines.proofs.chunks.FramerPrinterLINES_ROOM.print_end.Goals as goal

pub returns-clause-output : goal.returns-clause-output
returns-clause-output g c = search rules
