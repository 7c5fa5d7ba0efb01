use Rattle.{std.{specs.Prelude.{⊤}, proofs.lemmas.Option.{MatchOption-at_some}}, dgt_game.specs.{Reading.{IsRoomFor}, Memory.{FitsBy}}}
use Rattle.dgt_game.proofs.recogniser.Recogniser.or_unordered.Goals as goal

pub returns-clause-linked : goal.returns-clause-linked
returns-clause-linked c = λ pieces first second.
    c.unordered.ensures.linked pieces
    (MatchOption-at_some ⊤ (λ node. FitsBy c.args.self.now.memory pieces node) c.in_ok-node.node
    c.in_ok-node.was second)

pub returns-clause-room : goal.returns-clause-room
returns-clause-room c = λ first second.
    c.unordered.ensures.room (MatchOption-at_some ⊤ (IsRoomFor c.args.self.now.memory)
    c.in_ok-node.node c.in_ok-node.was second)
