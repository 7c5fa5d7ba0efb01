use Rattle.{std.proofs.Common.{rules}, dgt_chess.{specs.San.{WrittenIsRead}, proofs.SanLaws.{one_move}}}
use Rattle.dgt_chess.proofs.laws.written_is_read.Goals as goal

read_back : WrittenIsRead
read_back s x to p text result sx st h k = search (rules, one_move)

pub returns : goal.returns
returns c = read_back
