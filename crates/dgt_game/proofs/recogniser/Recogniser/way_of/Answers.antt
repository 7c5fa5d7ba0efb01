use Rattle.dgt_game.{specs.Lines.{moves_of}, proofs.Links.{joins}}
use Rattle.dgt_game.proofs.recogniser.Recogniser.way_of.Goals as goal

pub returns-in_default : goal.returns-in_default
returns-in_default c = λ state new len line only.
    joins c.args.halves state new (moves_of c.args.moves) len line
