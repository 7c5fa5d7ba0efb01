-- What a recogniser holds, after these positions were shown and this line was reported.
use Rattle.std.specs.Prelude.{◌≡◌, ◌≢◌, ◌<◌, ◌≤◌, ◌⊎◌, ◌+◌, ◌||◌, ⊤, ℕ, min, Bool, true, false, nat_lt, List, [], ◌∷◌, Option, Some, None, IfSome, length, map, slice_get}
use Rattle.dgt_values.specs.declared.pieces.Piece.{Piece}
use Rattle.dgt_chess.specs.declared.state.State.{State}
use Rattle.dgt_chess.specs.Rules.{board}
use Rattle.dgt_game.specs.declared.event.Event.{Event}
use Rattle.dgt_game.specs.declared.node.Node.{Node}
use Rattle.dgt_game.specs.declared.node.Origin.{Origin}
use Rattle.dgt_game.specs.declared.node.Step.{Step}
use Rattle.dgt_game.specs.declared.node.Way.{Way}
use Rattle.dgt_game.specs.declared.node.Place.{Place}
use Rattle.dgt_game.specs.declared.reading.Reading.{Reading}
use Rattle.dgt_game.specs.declared.memory.Memory.{Memory}
use Rattle.dgt_game.specs.Lines.{IsMove, IsLine, IsOnly, moves_of}
use Rattle.dgt_game.specs.Told.{Told, IsShown, Joins, WasShown, told_pieces}

abbrev pub halves_of : Way → ℕ
halves_of Way.Begun = 0
halves_of (Way.Made one) = 1
halves_of (Way.Unseen moves) = length (moves_of moves)
halves_of (Way.Gap count) = count

abbrev pub told_of : Step → Told
told_of step = record {
  state = step.state;
  halves = halves_of step.way;
  is_turned = step.is_turned;
}

abbrev pub steps : List Node → List Step
steps nodes = map (λ node. node.step) nodes

-- the half-moves lead from the one state to the other
abbrev pub By : State → Way → State → Type 0
By state Way.Begun new = ⊥
By state (Way.Made one) new = IsMove state one new
By state (Way.Unseen moves) new =
    IsLine state (moves_of moves) new × IsOnly state (moves_of moves) (board new)
By state (Way.Gap count) new = Joins count state new

-- a line begins with the step, or it follows the one before by its half-moves
unfoldable pub Links : Option Step → Step → Type 0
Links before step =
    (step.way ≡ Way.Begun)
    ⊎ ((first : Step) × (before ≡ Some first) × (first.is_turned ≡ step.is_turned)
    × By first.state step.way step.state)

-- what is reported of a step
abbrev pub event_by : Way → State → Bool → Event
event_by Way.Begun state is_turned = Event.Begun state is_turned
event_by (Way.Made one) state is_turned = Event.Made one
event_by (Way.Unseen moves) state is_turned = Event.Unseen moves
event_by (Way.Gap count) state is_turned = Event.Gap state count

abbrev pub event_of : Step → Event
event_of step = event_by step.way step.state step.is_turned

-- the line after a step
abbrev pub line_by : Way → Told → List Told → List Told
line_by Way.Begun told line = told ∷ []
line_by way told line = told ∷ line

abbrev pub line_after : Step → List Told → List Told
line_after step line = line_by step.way (told_of step) line

-- the board has shown the step
abbrev pub IsSeen : List (List Piece) → Step → Type 0
IsSeen shown step = WasShown shown (told_of step)

-- steps in turn, each after the one before
abbrev pub Chain : List (List Piece) → Option Step → List Step → Type 0
Chain shown before [] = ⊤
Chain shown before (step ∷ steps) =
    Links before step × IsSeen shown step × Chain shown (Some step) steps

-- the last of steps
abbrev pub tip : Option Step → List Step → Option Step
tip before [] = before
tip before (step ∷ steps) = tip (Some step) steps

-- the step at a place
abbrev pub step_at : List Step → List Step → Place → Option Step
step_at line seen (Place.Line k) = slice_get line k
step_at line seen (Place.Seen k) = slice_get seen k
step_at line seen Place.Nowhere = None

-- each step follows the one that it names
abbrev pub Grows : List (List Piece) → List Step → List Step → Type 0
Grows shown line seen =
    (k : ℕ) (step : Step) → slice_get seen k ≡ Some step
    → Links (step_at line seen step.parent) step × IsSeen shown step

-- What the step with this index may follow: one that was seen before it, or one of the line's last
-- five states.
abbrev pub IsBefore : ℕ → ℕ → Place → Type 0
IsBefore lines k (Place.Line base) = (base < lines) × (base ≤ 4)
IsBefore lines k (Place.Seen j) = j < k
IsBefore lines k Place.Nowhere = ⊤

abbrev pub IsRooted : ℕ → List Step → Type 0
IsRooted lines seen =
    (k : ℕ) (step : Step) → slice_get seen k ≡ Some step → IsBefore lines k step.parent

-- the steps are the last ones of the line
abbrev pub AreLast : List Step → List Told → Type 0
AreLast [] line = ⊤
AreLast (step ∷ steps) [] = ⊥
AreLast (step ∷ steps) (told ∷ line) = (told_of step ≡ told) × AreLast steps line

-- some are kept if the line has any
abbrev pub IsKept : List Step → List Told → Type 0
IsKept steps line = AreLast steps line × (steps ≡ [] → line ≡ [])

-- all of the line was reported
abbrev pub IsTold : Memory → Type 0
IsTold self = (self.back ≡ 0) × (self.unsaid.items ≡ [])

pub record Holds (shown : List (List Piece)) (line : List Told) (self : Memory) : Type 0 where
  pub shown_line : IsShown shown line
  pub kept : IsKept (steps self.line.items) line
  pub back : (self.back ≡ 0) ⊎ (self.back < length (steps self.line.items))
  pub unsaid : Chain shown (slice_get (steps self.line.items) self.back) (steps self.unsaid.items)
  pub answer : IfSome self.answer (λ node. Links
      (tip (slice_get (steps self.line.items) self.back) (steps self.unsaid.items)) node.step
      × IsSeen shown node.step)
  -- and it follows something
  pub answered : IfSome self.answer (λ node.
      tip (slice_get (steps self.line.items) self.back) (steps self.unsaid.items) ≢ None)
  pub grows : Grows shown (steps self.line.items) (steps self.seen.items)
  pub rooted : IsRooted (length (steps self.line.items)) (steps self.seen.items)
  -- while something is reported, nothing else is seen
  pub quiet : (steps self.seen.items ≡ []) ⊎ IsTold self

-- the node follows the one that it names, and has these pieces
abbrev pub Fits : Memory → List Piece → Node → Type 0
Fits self pieces node =
    Links (step_at (steps self.line.items) (steps self.seen.items) node.step.parent) node.step
    × (told_pieces (told_of node.step) ≡ pieces)

-- the same, by some half-moves
abbrev pub FitsBy : Memory → List Piece → Node → Type 0
FitsBy self pieces node = Fits self pieces node × (node.step.way ≢ Way.Begun)

-- a line begins with the node, which was shown
abbrev pub IsRoot : List (List Piece) → Node → Type 0
IsRoot shown node = (node.step.way ≡ Way.Begun) × IsSeen shown node.step

-- what a reading says is so
abbrev pub Reads : List (List Piece) → Memory → Reading → Type 0
Reads shown self (Reading.At place) = ⊤
Reads shown self (Reading.New node) =
    Links (step_at (steps self.line.items) (steps self.seen.items) node.step.parent) node.step
    × IsSeen shown node.step
Reads shown self (Reading.Held node) =
    Links (step_at (steps self.line.items) (steps self.seen.items) node.step.parent) node.step
    × IsSeen shown node.step
Reads shown self (Reading.Two first second) =
    Links (step_at (steps self.line.items) (steps self.seen.items) first.step.parent) first.step
    × IsSeen shown first.step × Links (Some first.step) second.step × IsSeen shown second.step

-- half-moves that weren't shown one by one
abbrev pub is_jump : Way → Bool
is_jump Way.Begun = false
is_jump (Way.Made one) = false
is_jump (Way.Unseen moves) = true
is_jump (Way.Gap count) = true

-- more than two of them, or in no certain order
abbrev pub is_long_jump : Way → Bool
is_long_jump Way.Begun = false
is_long_jump (Way.Made one) = false
is_long_jump (Way.Unseen moves) = nat_lt 2 (length (moves_of moves))
is_long_jump (Way.Gap count) = true

-- the same half-moves, in no certain order
abbrev pub IsUnordered : Node → Node → Type 0
IsUnordered node new =
    (new.step ≡ record node.step { way = Way.Gap (halves_of node.step.way) })
    × (new.jumps_far ≡ true)

-- A node's path begins where it leaves the line. It jumps if one of its half-moves does.
abbrev pub GoesOnBy : Node → Node → Type 0
GoesOnBy from node =
    ((k : ℕ) → node.step.parent ≡ Place.Line k → (node.origin ≡ Origin.Line k)
    × (node.depth ≡ 1) × (node.jumps ≡ is_jump node.step.way)
    × (node.jumps_far ≡ is_long_jump node.step.way))
    × (((k : ℕ) → node.step.parent ≢ Place.Line k) → (node.origin ≡ from.origin)
    × (node.depth ≡ min (from.depth + 1) 255)
    × (node.jumps ≡ (is_jump node.step.way || from.jumps))
    × (node.jumps_far ≡ (is_long_jump node.step.way || from.jumps_far)))
