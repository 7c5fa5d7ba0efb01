use Rattle.std.proofs.Common.{◌≡◌, ℕ, List, [], drop, length}
use Rattle.dgt_values.specs.declared.pieces.Piece.{Piece}
use Rattle.dgt_game.specs.declared.node.Step.{Step}
use Rattle.dgt_game.specs.Memory.{Chain, Grows, IsBefore, IsRooted, Links, step_at, steps, tip}
use Rattle.dgt_game.specs.Sure.{AreMarked}
use Rattle.dgt_game.proofs.memory.chained.Given as goal

abbrev pub invariant-loop-k : goal.invariant-loop-k
invariant-loop-k l =
    (length l.nodes.items ≡ l.k)
    × ((shown : List (List Piece)) (kept : List Step)
    → Chain shown (step_at kept [] l.fn.start) (steps l.path.items)
    → Grows shown kept (steps l.nodes.items)
    × Chain shown (step_at kept (steps l.nodes.items) l.parent) (steps (drop l.k l.path.items)))
    × ((kept : List Step) (step : Step)
    → Links (tip (step_at kept [] l.fn.start) (steps l.path.items)) step
    → Links (tip (step_at kept (steps l.nodes.items) l.parent) (steps (drop l.k l.path.items)))
    step)
    × ((lines : ℕ) → IsBefore lines 0 l.fn.start → IsRooted lines (steps l.nodes.items)
    × IsBefore lines l.k l.parent)
    × ((sure : List (List Piece)) → AreMarked sure l.path.items → AreMarked sure l.nodes.items)
