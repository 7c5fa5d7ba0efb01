use Rattle.{dgt_values.specs.Board.{pieces_of}, dgt_game.proofs.Links.{begun}}
use Rattle.dgt_game.proofs.recogniser.Recogniser.read_start.Goals as goal

pub returns-then-is-clause-linked : goal.returns-then-is-clause-linked
returns-then-is-clause-linked c = λ shown seen.
    begun shown c.args.self.now.memory c.start-start.result _ (pieces_of c.args.view.now.shown)
    c.root-node.result c.root-node.ensures.step (c.is.ensures.0 c.if-is.true) seen
