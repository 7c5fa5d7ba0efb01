use Rattle.{std.proofs.Common.{◌∙◌}, dgt_values.specs.Board.{pieces_of}, dgt_game.{specs.Memory.{steps}, proofs.Links.{started}}}
use Rattle.dgt_game.proofs.recogniser.Recogniser.from_start_by.Goals as goal

pub returns-clause-linked : goal.returns-clause-linked
returns-clause-linked c = λ shown seen.
    let memory = c.args.self.now.memory in
    let (parent, turned, by, here) = c.in_ok-node.ensures.linked in
    started shown (steps memory.line.items) (steps memory.seen.items) c.start.result
    c.args.is_turned (pieces_of c.args.view.now.shown) _ c.in_ok-node.node.step
    c.root-root.ensures.step c.start.ensures turned by (here ∙ c.from.ensures) seen
