-- What the board has shown for sure.
use Rattle.std.specs.Prelude.{◌≡◌, ◌⊎◌, ⊤, ℕ, true, false, List, [], ◌∷◌, Some, IfSome, MatchOption, Contains, slice_get}
use Rattle.dgt_values.specs.declared.pieces.Piece.{Piece}
use Rattle.dgt_values.specs.Board.{pieces_of}
use Rattle.dgt_game.specs.declared.event.GameResult.{GameResult}
use Rattle.dgt_game.specs.declared.memory.Memory.{Memory}
use Rattle.dgt_game.specs.declared.node.Node.{Node}
use Rattle.dgt_game.specs.declared.node.Place.{Place}
use Rattle.dgt_game.specs.declared.node.Returned.{Returned}
use Rattle.dgt_game.specs.declared.node.Way.{Way}
use Rattle.dgt_game.specs.declared.observation.Sight.{Sight}
use Rattle.dgt_game.specs.declared.reading.Reading.{Reading}
use Rattle.dgt_game.specs.declared.recogniser.Recogniser.{Recogniser}
use Rattle.dgt_game.specs.Memory.{IsTold, halves_of, steps, told_of}
use Rattle.dgt_game.specs.Results.{ByKings}
use Rattle.dgt_game.specs.Told.{Told, WasShown, as_shown}
use Rattle.dgt_game.specs.Waiting.{coming}
use Rattle.dgt_chess.specs.Rules.{IsStart}

-- the pictures shown for sure so far, the last one first
abbrev pub sure_after : Sight → List (List Piece) → List (List Piece)
sure_after (Sight.Sure position) sure = pieces_of position ∷ sure
sure_after (Sight.Doubted position) sure = sure
sure_after Sight.Away sure = sure

-- The board has shown a state for sure, or a result of it by kings.
unfoldable pub WasSure : List (List Piece) → Told → Type 0
WasSure sure told =
    WasShown sure told
    ⊎ ((picture : List Piece) × Contains sure picture
    × ((result : GameResult) × ByKings (as_shown told.is_turned picture) told.state result))

-- A node that is marked so was shown for sure.
abbrev pub IsMarked : List (List Piece) → Node → Type 0
IsMarked sure node = node.is_sure ≡ true → WasShown sure (told_of node.step)

abbrev pub AreMarked : List (List Piece) → List Node → Type 0
AreMarked sure nodes =
    (k : ℕ) (node : Node) → slice_get nodes k ≡ Some node → IsMarked sure node

-- what was shown for sure before
pub record WereSure (sure : List (List Piece)) (self : Memory) (gone : Returned) : Type 0 where
  pub seen : AreMarked sure self.seen.items
  pub answer : IfSome self.answer (IsMarked sure)
  -- a state to which the board has gone back for sure
  pub returned : gone.is_sure ≡ true → IfSome (slice_get (steps self.line.items) gone.count)
      (λ step. WasShown sure (told_of step))
  pub waits : IsTold self ⊎ (gone.is_sure ≡ false)
  -- the state that the line ends with once all is reported
  pub ends : IfSome (coming self) (λ step. WasSure sure (told_of step))

-- what is shown now
abbrev pub ShowsSure : List (List Piece) → Recogniser → Type 0
ShowsSure sure self =
    self.is_sure ≡ true → MatchOption self.view ⊥ (λ view. Contains sure (pieces_of view.shown))

-- what is so after these pictures were shown for sure
abbrev pub KnowsSure : List (List Piece) → Recogniser → Type 0
KnowsSure sure self = ShowsSure sure self × WereSure sure self.memory self.returned

-- `see` takes what is seen for sure.
abbrev pub SeesSure : Recogniser → Sight → Recogniser → Type 0
SeesSure old sight new =
    (sure : List (List Piece)) → KnowsSure sure old → KnowsSure (sure_after sight sure) new

-- What is reported was shown for sure.
abbrev pub StaysSure : Recogniser → Recogniser → Type 0
StaysSure old new = (sure : List (List Piece)) → KnowsSure sure old → KnowsSure sure new

-- **The last state was shown for sure**, once all that was to be reported of the line is.
abbrev pub EndsSure : List (List Piece) → List Told → Type 0
EndsSure sure [] = ⊤
EndsSure sure (told ∷ line) = WasSure sure told

-- only for bodies

-- the same for what was shown before
abbrev pub KeepsSure : Recogniser → Recogniser → Type 0
KeepsSure old new =
    (sure : List (List Piece)) → ShowsSure sure old → WereSure sure old.memory old.returned
    → WereSure sure new.memory new.returned

abbrev pub LeavesSure : Memory → Memory → Type 0
LeavesSure old new =
    (sure : List (List Piece)) (returned : Returned) → WereSure sure old returned
    → WereSure sure new returned

-- a node follows a state that was shown for sure
abbrev pub FollowsSure : Recogniser → Node → Type 0
FollowsSure self node =
    ((k : ℕ) → node.step.parent ≡ Place.Line k
    → (self.returned.is_sure ≡ true) × (self.returned.count ≡ k))
    × ((k : ℕ) → node.step.parent ≡ Place.Seen k
    → MatchOption (slice_get self.memory.seen.items k) ⊥ (λ before. before.is_sure ≡ true))

-- what a reading marks: the state in which games begin, and of a piece in a hand one half-move
abbrev pub MarksStart : Reading → Type 0
MarksStart (Reading.At place) = ⊤
MarksStart (Reading.New node) = ⊤
MarksStart (Reading.Held node) = halves_of node.step.way ≡ 1
MarksStart (Reading.Two first second) =
    first.is_sure ≡ true → (first.step.way ≡ Way.Begun) × IsStart first.step.state
