use Rattle.std.specs.Prelude.{IfSome}
use Rattle.dgt_values.specs.Board.{pieces_of}
use Rattle.dgt_game.specs.Memory.{Fits}
use Rattle.dgt_game.specs.Reading.{IsRoomFor}
use Rattle.dgt_game.proofs.recogniser.Recogniser.read_shadow.Given as goal

abbrev pub invariant-loop-k : goal.invariant-loop-k
invariant-loop-k l =
    IfSome l.best (λ node. Fits l.self.memory (pieces_of l.view.shown) node)
    × IfSome l.best (IsRoomFor l.self.memory)
