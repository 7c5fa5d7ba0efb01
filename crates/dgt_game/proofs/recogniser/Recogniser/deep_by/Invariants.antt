use Rattle.std.specs.Prelude.{IfSome}
use Rattle.dgt_values.specs.Board.{pieces_of}
use Rattle.dgt_game.specs.Memory.{FitsBy}
use Rattle.dgt_game.specs.Reading.{IsRoomFor}
use Rattle.dgt_game.proofs.recogniser.Recogniser.deep_by.Given as goal

abbrev pub invariant-loop-at : goal.invariant-loop-at
invariant-loop-at l =
    IfSome l.first (λ node. FitsBy l.self.memory (pieces_of l.view.shown) node)
    × IfSome l.first (IsRoomFor l.self.memory)
