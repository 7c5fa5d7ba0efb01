use Rattle.{dgt_values.specs.Board.{pieces_of}, dgt_game.proofs.Links.{reads}}
use Rattle.dgt_game.proofs.recogniser.Recogniser.read_half_move.Goals as goal

pub returns-in-Some-clause-linked : goal.returns-in-Some-clause-linked
returns-in-Some-clause-linked c = λ shown seen.
    c.known.ensures.linked shown (pieces_of c.args.view.now.shown) seen c.in-Some.ensures.linked

pub returns-clause-linked : goal.returns-clause-linked
returns-clause-linked c = λ shown seen.
    reads shown c.args.self.now.memory (pieces_of c.args.view.now.shown) c.in_ok-node.node seen
    c.in_ok-node.ensures.linked

pub returns-in-Some-clause-at : goal.returns-in-Some-clause-at
returns-in-Some-clause-at c = c.known.ensures.at c.args.view.now c.in-Some.ensures.linked.1
