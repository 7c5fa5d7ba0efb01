use Rattle.std.proofs.Common.{◌≡◌, ◌≢◌, ◌+◌, ◌-◌, ◌<◌, List, length}
use Rattle.dgt_values.specs.declared.pieces.Piece.{Piece}
use Rattle.dgt_game.specs.declared.node.Place.{Place}
use Rattle.dgt_game.specs.Told.{Told}
use Rattle.dgt_game.specs.Memory.{Chain, Holds, IsBefore, IsRooted, step_at, steps, tip}
use Rattle.dgt_game.specs.Sure.{AreMarked}
use Rattle.dgt_game.proofs.memory.Memory.path.Given as goal

abbrev pub invariant-loop-at : goal.invariant-loop-at
invariant-loop-at l =
    (((shown : List (List Piece)) (line : List Told) → Holds shown line l.self
    → Chain shown (step_at (steps l.self.line.items) (steps l.self.seen.items) l.place)
    (steps l.path.items))
    × (tip (step_at (steps l.self.line.items) (steps l.self.seen.items) l.place)
    (steps l.path.items)
    ≡ step_at (steps l.self.line.items) (steps l.self.seen.items) (Place.Seen l.k))
    × (length l.path.items ≡ l._at)
    × (IsRooted (length (steps l.self.line.items)) (steps l.self.seen.items)
    → l.k < length (steps l.self.seen.items)
    → IsBefore (length (steps l.self.line.items)) (l.k + 1 - l._at) l.place)
    × (l._at ≡ 0 → l.place ≡ Place.Seen l.k)
    × (l._at ≢ 0 → l.k < length (steps l.self.seen.items)))
    × ((sure : List (List Piece)) → AreMarked sure l.self.seen.items
    → AreMarked sure l.path.items)
