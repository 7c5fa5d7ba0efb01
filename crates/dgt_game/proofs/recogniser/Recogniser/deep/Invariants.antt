use Rattle.std.proofs.Common.{◌≤◌, ◌<◌, ℕ, IsSome}
use Rattle.std.specs.Prelude.{IfSome}
use Rattle.dgt_values.specs.Board.{pieces_of}
use Rattle.dgt_game.specs.declared.node.Place.{Place}
use Rattle.dgt_game.specs.Finding.{MayJump}
use Rattle.dgt_game.specs.Memory.{FitsBy}
use Rattle.dgt_game.specs.Reading.{HasLine, IsLive, IsRoomFor}
use Rattle.dgt_game.proofs.recogniser.Recogniser.deep.Given as goal

abbrev pub invariant-loop-halves : goal.invariant-loop-halves
invariant-loop-halves l =
    IfSome l.other (λ node. FitsBy l.self.memory (pieces_of l.view.shown) node)
    × ((count : ℕ) → IsLive l.self → MayJump l.self (pieces_of l.view.shown) → 2 ≤ count
    → count < l.halves → HasLine count l.self.memory (Place.Line 0) (pieces_of l.view.shown)
    → IsSome l.other)
    × IfSome l.other (IsRoomFor l.self.memory)
