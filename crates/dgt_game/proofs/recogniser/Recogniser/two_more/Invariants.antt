use Rattle.std.specs.Prelude.{IfSome}
use Rattle.dgt_values.specs.Board.{pieces_of}
use Rattle.dgt_game.specs.Memory.{Fits}
use Rattle.dgt_game.specs.Reading.{IsRoomFor}
use Rattle.dgt_game.proofs.recogniser.Recogniser.two_more.Given as goal

abbrev pub invariant-loop-at : goal.invariant-loop-at
invariant-loop-at l =
    IfSome l.found (λ node. Fits l.self.memory (pieces_of l.view.shown) node)
    × IfSome l.found (IsRoomFor l.self.memory)
