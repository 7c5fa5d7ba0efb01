use Rattle.{dgt_values.specs.Board.{pieces_of}, dgt_game.proofs.Links.{reads}}
use Rattle.dgt_game.proofs.recogniser.Recogniser.read_jump.Goals as goal

pub returns-in-Some-clause-linked : goal.returns-in-Some-clause-linked
returns-in-Some-clause-linked c = λ shown line holds seen.
    reads shown c.args.self.now.memory (pieces_of c.args.view.now.shown) c.in-Some.node seen
    c.in-Some.ensures.linked
