-- What a picture is read as.
use Rattle.std.specs.Prelude.{◌≡◌, ◌≢◌, ◌<◌, ◌≤◌, ◌↔◌, ◌⊎◌, ◌+◌, ◌-◌, ◌^◌, ⊤, ℕ, Bool, true, false, min, List, [], Some, IfSome, MatchOption, length, map, slice_get}
use Rattle.dgt_values.specs.declared.pieces.Piece.{Piece}
use Rattle.dgt_values.specs.Board.{pieces_of}
use Rattle.dgt_chess.specs.declared.pieces.Colour.{Colour}
use Rattle.dgt_chess.specs.declared.pieces.Man.{Man}
use Rattle.dgt_chess.specs.declared.state.Move.{Move}
use Rattle.dgt_chess.specs.declared.state.State.{State}
use Rattle.dgt_chess.specs.Attacks.{piece_at, piece_of}
use Rattle.dgt_chess.specs.Rules.{IsStart, board}
use Rattle.dgt_game.specs.declared.memory.Memory.{Memory}
use Rattle.dgt_game.specs.declared.node.Node.{Node}
use Rattle.dgt_game.specs.declared.node.Origin.{Origin}
use Rattle.dgt_game.specs.declared.node.Place.{Place}
use Rattle.dgt_game.specs.declared.node.Step.{Step}
use Rattle.dgt_game.specs.declared.reading.Reading.{Reading}
use Rattle.dgt_game.specs.declared.recogniser.Over.{Over}
use Rattle.dgt_game.specs.declared.recogniser.Recogniser.{Recogniser}
use Rattle.dgt_game.specs.declared.view.View.{View}
use Rattle.dgt_game.specs.Lines.{IsLine, IsMove, LeadsTo}
use Rattle.dgt_game.specs.Told.{IsHeld, LacksOne, as_shown, told_pieces}
use Rattle.dgt_game.specs.Memory.{IsBefore, step_at, steps, told_of}
use Rattle.dgt_game.specs.Missing.{CanBeGone, GoneFrom}
use Rattle.dgt_game.specs.Waiting.{last_of}

-- the picture is that of a step's state
abbrev pub Shows : View → Step → Type 0
Shows view step = told_pieces (told_of step) ≡ pieces_of view.shown

-- the same of the step at a place
abbrev pub ShowsAt : Memory → View → Place → Type 0
ShowsAt self view place =
    (step : Step) × (step_at (steps self.line.items) (steps self.seen.items) place ≡ Some step)
    × Shows view step

-- what a reading says of the picture
abbrev pub ReadsView : Memory → View → Reading → Type 0
ReadsView self view (Reading.At Place.Nowhere) = ⊤
ReadsView self view (Reading.At place) = ShowsAt self view place
ReadsView self view (Reading.New node) = Shows view node.step
ReadsView self view (Reading.Held node) =
    IsHeld (as_shown node.step.is_turned (pieces_of view.shown)) node.step.state
    × (as_shown node.step.is_turned (pieces_of view.shown) ≢ board node.step.state)
ReadsView self view (Reading.Two first second) = Shows view second.step

-- some legal line of this many half-moves leads to the pieces
abbrev pub SomeLine : ℕ → State → List Piece → Type 0
SomeLine count state pieces =
    (moves : List Move) × (length moves ≡ count) × LeadsTo state moves pieces

-- one leads from a step to the picture
abbrev pub HasLineFrom : ℕ → Step → List Piece → Type 0
HasLineFrom count step picture =
    SomeLine count step.state (as_shown step.is_turned picture)

-- one leads from the step at a place to the picture
abbrev pub HasLine : ℕ → Memory → Place → List Piece → Type 0
HasLine count self place picture =
    (step : Step) × (step_at (steps self.line.items) (steps self.seen.items) place ≡ Some step)
    × HasLineFrom count step picture

-- the line has no result, or one by the rules that may still be taken back
abbrev pub MayGoOn : Over → ℕ → Type 0
MayGoOn Over.No since = ⊤
MayGoOn (Over.Rules at) since = since < min (at + 10000) (2 ^ 64 - 1)
MayGoOn Over.Kings since = ⊥

abbrev pub IsLive : Recogniser → Type 0
IsLive self = (self.memory.line.items ≢ []) × MayGoOn self.over self.since

-- the picture is read as something
abbrev pub IsRead : Reading → Type 0
IsRead (Reading.At Place.Nowhere) = ⊥
IsRead reading = ⊤

-- a node follows one that was seen before it, or one of the line's last states
abbrev pub IsRoomFor : Memory → Node → Type 0
IsRoomFor self node =
    IsBefore (length (steps self.line.items)) (length (steps self.seen.items)) node.step.parent

-- the picture is that of a known state, or of one after it, with no piece in a hand
abbrev pub IsNear : Reading → Type 0
IsNear (Reading.At Place.Nowhere) = ⊥
IsNear (Reading.At place) = ⊤
IsNear (Reading.New node) = ⊤
IsNear reading = ⊥

-- there is room for what is read
abbrev pub HasRoom : Memory → Reading → Type 0
HasRoom self (Reading.At place) = ⊤
HasRoom self (Reading.New node) = IsRoomFor self node
HasRoom self (Reading.Held node) = IsRoomFor self node
HasRoom self (Reading.Two first second) = IsRoomFor self first

-- the state in which games begin, seen from either side
abbrev pub ShowsStart : View → Type 0
ShowsStart view =
    (state : State) × (is_turned : Bool) × IsStart state
    × (board state ≡ as_shown is_turned (pieces_of view.shown))

-- one of the four states before the line's last one
abbrev pub ShowsEarlier : Memory → View → Type 0
ShowsEarlier self view = (k : ℕ) × (1 ≤ k) × (k ≤ 4) × ShowsAt self view (Place.Line k)

-- What is always read: the start of a game and, if the line may go on, one of its states, or what
-- one legal half-move or two lead to from the last one. If the line was taken back since, two may
-- be pieces that are lifted. Without a doubt, one piece may be gone after a half-move.
abbrev pub IsKnown : Recogniser → View → Type 0
IsKnown self view =
    ShowsStart view
    ⊎ (IsLive self × ShowsEarlier self.memory view)
    ⊎ (IsLive self × HasLine 1 self.memory (Place.Line 0) (pieces_of view.shown))
    ⊎ (IsLive self × (self.returned.count ≡ 0)
    × HasLine 2 self.memory (Place.Line 0) (pieces_of view.shown))
    ⊎ ((self.over ≡ Over.No) × ShowsAt self.memory view (Place.Line 0))
    ⊎ (IsLive self × (self.is_behind ≡ false) × (self.is_set_up ≡ false)
    × GoneFrom self.memory (Place.Line 0) (pieces_of view.shown))

abbrev pub origins : List Node → List Origin
origins nodes = map (λ node. node.origin) nodes

-- What one legal half-move leads to from a state that was shown since. That one's path begins with
-- the line, or with the start of a game.
abbrev pub FollowsSeen : Memory → List Piece → Type 0
FollowsSeen self picture =
    (k : ℕ) × (node : Node) × (slice_get self.seen.items k ≡ Some node)
    × (node.origin ≢ Origin.Shadow) × HasLineFrom 1 node.step picture

-- what one legal half-move leads to from one of the four states before the last one, or two from
-- one of the two before it
abbrev pub IsReplaced : Memory → List Piece → Type 0
IsReplaced self picture =
    ((k : ℕ) × (1 ≤ k) × (k ≤ 4) × HasLine 1 self (Place.Line k) picture)
    ⊎ ((k : ℕ) × (1 ≤ k) × (k ≤ 2) × HasLine 2 self (Place.Line k) picture)

-- The picture is that of a state two half-moves or more before the line's last one, and what
-- another half-move in place of the last one leads to.
abbrev pub IsRepeated : Memory → View → Type 0
IsRepeated self view =
    ((k : ℕ) × (2 ≤ k) × ShowsAt self view (Place.Line k))
    × ¬ (ShowsAt self view (Place.Line 1))
    × HasLine 1 self (Place.Line 1) (pieces_of view.shown)

-- one of the last `count` half-moves was faster than hands
abbrev pub WasQuick : Memory → ℕ → Type 0
WasQuick self count =
    (k : ℕ) × (k < count) × MatchOption (slice_get self.line.items k) ⊥ (λ node.
    node.is_quick ≡ true)

-- it is read as three half-moves or more taken back only if one of them was faster than hands
abbrev pub TakesFewBack : Memory → Reading → Type 0
TakesFewBack self reading =
    (k : ℕ) → 3 ≤ k → reading ≡ Reading.At (Place.Line k) → WasQuick self k

-- the same of where the board stands, if what it shows is a repetition
abbrev pub RepeatsInPlace : Recogniser → Type 0
RepeatsInPlace self =
    IfSome self.view (λ view. IsLive self → IsRepeated self.memory view
    → TakesFewBack self.memory (Reading.At self.here))

-- such a picture has a place
abbrev pub IsExplained : Recogniser → Type 0
IsExplained self = IfSome self.view (λ view. IsKnown self view → self.here ≢ Place.Nowhere)

-- ---- After a doubt

-- a man of the colour has arrived on a square, or has left one that is empty now
abbrev pub MovedAt : List Piece → State → Colour → ℕ → Type 0
MovedAt picture state colour k =
    (piece_at picture k ≢ piece_at (board state) k)
    × (((man : Man) × (piece_at picture k ≡ piece_of colour man))
    ⊎ ((piece_at picture k ≡ Piece.Empty)
    × ((man : Man) × (piece_at (board state) k ≡ piece_of colour man))))

abbrev pub HasMoved : List Piece → State → Colour → Type 0
HasMoved picture state colour = (k : ℕ) × (k < 64) × MovedAt picture state colour k

-- since the line's last state, a man of the side to move has moved
abbrev pub HasAnswered : Memory → List Piece → Type 0
HasAnswered self picture =
    (step : Step) × (last_of self ≡ Some step)
    × HasMoved (as_shown step.is_turned picture) step.state step.state.turn

-- two, three or four legal half-moves lead from that state to the picture
abbrev pub HasSomeLines : Memory → List Piece → Type 0
HasSomeLines self picture =
    (count : ℕ) × (2 ≤ count) × (count ≤ 4) × HasLine count self (Place.Line 0) picture

-- ---- Laws

-- If a line has no result, it is known what one legal half-move from its last state leads to.
abbrev pub MovesAreKnown : Type 0
MovesAreKnown =
    (self : Recogniser) (view : View) (step : Step) (one : Move) (new : State)
    → self.over ≡ Over.No → last_of self.memory ≡ Some step → IsMove step.state one new
    → as_shown step.is_turned (board new) ≡ pieces_of view.shown → IsKnown self view

-- the same of two half-moves, if nothing was taken back
abbrev pub TwoAreKnown : Type 0
TwoAreKnown =
    (self : Recogniser) (view : View) (step : Step) (one answer : Move) (mid new : State)
    → self.over ≡ Over.No → self.returned.count ≡ 0 → last_of self.memory ≡ Some step
    → IsMove step.state one mid → IsMove mid answer new
    → as_shown step.is_turned (board new) ≡ pieces_of view.shown → IsKnown self view

-- so are that state and the four before it, and the start of a game
abbrev pub EarlierAreKnown : Type 0
EarlierAreKnown =
    (self : Recogniser) (view : View) (step : Step) (k : ℕ)
    → self.over ≡ Over.No → self.memory.line.items ≢ [] → k ≤ 4
    → slice_get (steps self.memory.line.items) k ≡ Some step
    → as_shown step.is_turned (board step.state) ≡ pieces_of view.shown → IsKnown self view

abbrev pub StartIsKnown : Type 0
StartIsKnown =
    (self : Recogniser) (view : View) (state : State) (is_turned : Bool) → IsStart state
    → as_shown is_turned (board state) ≡ pieces_of view.shown → IsKnown self view

-- **One missing piece doesn't break the line.** What a half-move leads to is known though it lacks
-- a piece that isn't a king, and stood there before. Nothing is in doubt or set up, and no other
-- piece may be the one that is gone.
abbrev pub GoneIsKnown : Type 0
GoneIsKnown =
    (self : Recogniser) (view : View) (step : Step) (one : Move) (new : State) (square : ℕ)
    → self.over ≡ Over.No → self.is_behind ≡ false → self.is_set_up ≡ false
    → last_of self.memory ≡ Some step → IsMove step.state one new
    → LacksOne (as_shown step.is_turned (pieces_of view.shown)) new square
    → piece_at (board step.state) square ≡ piece_at (board new) square
    → ((others : ℕ) → CanBeGone step.state (as_shown step.is_turned (pieces_of view.shown)) others
    → others ≡ square) → IsKnown self view

-- a line that is live has begun
abbrev pub LiveHasBegun : Type 0
LiveHasBegun = (self : Recogniser) → IsLive self → self.memory.line.items ≢ []

-- Without a line, or once the kings gave its result, only the start of a game is known.
abbrev pub ElseStartIsKnown : Type 0
ElseStartIsKnown =
    (self : Recogniser) (view : View) → (self.memory.line.items ≡ []) ⊎ (self.over ≡ Over.Kings)
    → IsKnown self view
    → (state : State) × (is_turned : Bool) × IsStart state
    × (as_shown is_turned (board state) ≡ pieces_of view.shown)

-- After a mate or a stalemate, a line may go on with what is shown within ten seconds.
abbrev pub LiveForTen : Type 0
LiveForTen =
    (self : Recogniser) (at : ℕ) → self.memory.line.items ≢ [] → self.over ≡ Over.Rules at
    → self.since < 2 ^ 64 - 1 → IsLive self ↔ (self.since < at + 10000)

-- What one legal half-move leads to from a state that was shown since, for sure or not, follows it.
abbrev pub SeenIsFollowed : Type 0
SeenIsFollowed =
    (self : Memory) (k : ℕ) (node : Node) (one : Move) (new : State) (picture : List Piece)
    → slice_get self.seen.items k ≡ Some node → node.origin ≢ Origin.Shadow
    → IsMove node.step.state one new → board new ≡ as_shown node.step.is_turned picture
    → FollowsSeen self picture

-- A man has moved if it stands where none of its kind stood, or has left an empty square.
abbrev pub ManHasMoved : Type 0
ManHasMoved =
    (picture : List Piece) (state : State) (colour : Colour) (man : Man) (square : ℕ)
    → square < 64
    → ((piece_at picture square ≡ piece_of colour man)
    × (piece_at (board state) square ≢ piece_of colour man))
    ⊎ ((piece_at picture square ≡ Piece.Empty)
    × (piece_at (board state) square ≡ piece_of colour man))
    → HasMoved picture state colour

-- **A repetition** is a legal move from the state before the last one to a state that was reported
-- before these.
abbrev pub RepetitionIsRead : Type 0
RepetitionIsRead =
    (self : Memory) (view : View) (before step : Step) (k : ℕ) (one : Move) (new : State)
    → slice_get (steps self.line.items) 1 ≡ Some before → IsMove before.state one new
    → as_shown before.is_turned (board new) ≡ pieces_of view.shown
    → as_shown before.is_turned (board before.state) ≢ pieces_of view.shown → 2 ≤ k
    → slice_get (steps self.line.items) k ≡ Some step
    → as_shown step.is_turned (board step.state) ≡ pieces_of view.shown
    → IsRepeated self view

-- Two, three or four legal half-moves from the line's last state are several.
abbrev pub TwoToFourAreSome : Type 0
TwoToFourAreSome =
    (self : Memory) (step : Step) (moves : List Move) (new : State) (picture : List Piece)
    → last_of self ≡ Some step → IsLine step.state moves new
    → board new ≡ as_shown step.is_turned picture
    → (length moves ≡ 2) ⊎ (length moves ≡ 3) ⊎ (length moves ≡ 4)
    → HasSomeLines self picture
