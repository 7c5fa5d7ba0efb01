use Rattle.{std.{specs.Prelude.{⊤}, proofs.lemmas.Option.{MatchOption-at_some}}, dgt_game.specs.{Reading.{IsRoomFor}, Memory.{FitsBy}}}
use Rattle.dgt_game.proofs.recogniser.Recogniser.or_line.Goals as goal

pub returns-else-has_rested-clause-linked : goal.returns-else-has_rested-clause-linked
returns-else-has_rested-clause-linked c = λ pieces line node.
    c.unordered.ensures.linked pieces (MatchOption-at_some ⊤ (λ other. FitsBy c.args.self.now.memory
    pieces other) c.in-Some.other c.in-Some.is line)

pub returns-else-has_rested-clause-room : goal.returns-else-has_rested-clause-room
returns-else-has_rested-clause-room c = λ line node.
    c.unordered.ensures.room (MatchOption-at_some ⊤ (IsRoomFor c.args.self.now.memory)
    c.in-Some.other c.in-Some.is line)
