use Rattle.std.specs.Prelude.{◌≡◌, ◌≢◌, ◌≤◌, ◌+◌, ℕ, IfSome, IsSome, Some, slice_get}
use Rattle.dgt_values.specs.Board.{pieces_of}
use Rattle.dgt_game.specs.declared.node.Node.{Node}
use Rattle.dgt_game.specs.declared.node.Origin.{Origin}
use Rattle.dgt_game.specs.Memory.{Fits}
use Rattle.dgt_game.specs.Reading.{IsRoomFor, HasLineFrom}
use Rattle.dgt_game.proofs.recogniser.Recogniser.one_more.Given as goal

abbrev pub invariant-loop-at : goal.invariant-loop-at
invariant-loop-at l =
    IfSome l.best (λ node. Fits l.self.memory (pieces_of l.view.shown) node)
    × IfSome l.best (IsRoomFor l.self.memory)
    × ((k : ℕ) (node : Node) → l.len ≤ k + l.at → slice_get l.self.memory.seen.items k ≡ Some node
    → node.origin ≢ Origin.Shadow → HasLineFrom 1 node.step (pieces_of l.view.shown)
    → IsSome l.best)
