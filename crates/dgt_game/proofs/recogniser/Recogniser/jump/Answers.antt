use Rattle.{std.proofs.Common.{arith, refl}, dgt_values.specs.Board.{pieces_of}, dgt_game.proofs.{Links.{several}, Pictures.{no_line}}}
use Rattle.dgt_game.proofs.recogniser.Recogniser.jump.Goals as goal

pub returns-in-Several-clause-linked : goal.returns-in-Several-clause-linked
returns-in-Several-clause-linked c =
    several c.args.halves c.args.from.now.step.state c.in-Several.new
    (pieces_of c.args.shown.now) (c.in-Several.ensures (omega arith) (omega arith))

pub returns-in-Nothing-clause-reads : goal.returns-in-Nothing-clause-reads
returns-in-Nothing-clause-reads c = λ some few line.
    absurd (no_line c.args.halves c.args.from.now.step.state (pieces_of c.args.shown.now)
    (pieces_of c.args.shown.now) (c.in-Nothing.ensures some few) refl line)
