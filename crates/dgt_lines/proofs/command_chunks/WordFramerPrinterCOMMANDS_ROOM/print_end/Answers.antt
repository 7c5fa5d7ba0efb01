use Rattle.std.proofs.{Common.{arith}, lemmas.Grind.{common_steps}}
use Rattle.dgt_lines.proofs.command_chunks.WordFramerPrinterCOMMANDS_ROOM.print_end.Goals as goal

pub returns-clause-output : goal.returns-clause-output
returns-clause-output g c = grind (arith, common_steps)
