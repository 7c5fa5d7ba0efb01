-- The result of a game, by the rules or as the players show it.
use Rattle.std.specs.Prelude.{◌≡◌, ◌≢◌, ◌<◌, ◌≤◌, ◌↔◌, ◌⊎◌, ◌++◌, ℕ, ⊤, Bool, true, false, List, [], ◌∷◌, codes}
use Rattle.dgt_values.specs.declared.pieces.Piece.{Piece}
use Rattle.dgt_values.specs.Board.{square_name}
use Rattle.dgt_chess.specs.declared.pieces.Colour.{Colour}
use Rattle.dgt_chess.specs.declared.state.State.{State}
use Rattle.dgt_chess.specs.Attacks.{IsInCheck, file, piece_at, row}
use Rattle.dgt_chess.specs.Rules.{CanMove, board}
use Rattle.dgt_game.specs.declared.event.Event.{Event}
use Rattle.dgt_game.specs.declared.event.GameResult.{GameResult}

-- the side to move is mated
abbrev pub IsMated : State → Colour → Type 0
IsMated state side =
    (state.turn ≡ side) × IsInCheck (board state) state.turn × ¬ (CanMove state)

-- the result of a state with no legal move
abbrev pub ByRules : State → GameResult → Type 0
ByRules state GameResult.WhiteWins = IsMated state Colour.Black
ByRules state GameResult.BlackWins = IsMated state Colour.White
ByRules state GameResult.Draw = ¬ (IsInCheck (board state) state.turn) × ¬ (CanMove state)

-- d5, e5, d4 and e4
abbrev pub IsCentre : ℕ → Type 0
IsCentre square = (square ≡ 27) ⊎ (square ≡ 28) ⊎ (square ≡ 35) ⊎ (square ≡ 36)

abbrev pub IsKing : Piece → Type 0
IsKing piece = (piece ≡ Piece.WhiteKing) ⊎ (piece ≡ Piece.BlackKing)

-- the piece stands on this square, and on no other
abbrev pub IsOnlyOn : List Piece → Piece → ℕ → Type 0
IsOnlyOn picture piece at =
    (piece_at picture at ≡ piece)
    × ((square : ℕ) → square < 64 → piece_at picture square ≡ piece → square ≡ at)

-- the two kings stand on these two squares
abbrev pub KingsOn : List Piece → ℕ → ℕ → Type 0
KingsOn picture a b =
    (IsOnlyOn picture Piece.WhiteKing a × IsOnlyOn picture Piece.BlackKing b)
    ⊎ (IsOnlyOn picture Piece.WhiteKing b × IsOnlyOn picture Piece.BlackKing a)

-- what the kings mean: on d5 and e4 White has won, on e5 and d4 Black; on one file it is a draw
abbrev pub KingsMean : List Piece → GameResult → Type 0
KingsMean picture GameResult.WhiteWins = KingsOn picture 27 36
KingsMean picture GameResult.BlackWins = KingsOn picture 28 35
KingsMean picture GameResult.Draw = KingsOn picture 28 36 ⊎ KingsOn picture 27 35

-- the picture shows these pieces on a square. Kings, the centre and pieces that are gone don't
-- count.
abbrev pub FitsAt : List Piece → List Piece → ℕ → Type 0
FitsAt picture pieces square =
    IsKing (piece_at pieces square) ⊎ IsCentre square
    ⊎ (piece_at picture square ≡ piece_at pieces square)
    ⊎ (piece_at picture square ≡ Piece.Empty)

-- the same, but pieces that are gone count
abbrev pub StandsAs : List Piece → List Piece → ℕ → Type 0
StandsAs picture pieces square =
    IsKing (piece_at pieces square) ⊎ IsCentre square
    ⊎ (piece_at picture square ≡ piece_at pieces square)

-- the first of these of the whole board, but for one square
abbrev pub IsLike : List Piece → List Piece → Type 0
IsLike picture pieces =
    (other : ℕ) × ((square : ℕ) → square < 64 → square ≢ other → FitsAt picture pieces square)

-- The pieces explain the picture: outside the centre it shows these, and some may be gone.
abbrev pub ExplainsAt : List Piece → List Piece → ℕ → Type 0
ExplainsAt picture pieces square =
    IsCentre square ⊎ (piece_at picture square ≡ piece_at pieces square)
    ⊎ (piece_at picture square ≡ Piece.Empty)

abbrev pub Explains : List Piece → List Piece → Type 0
Explains picture pieces = (square : ℕ) → square < 64 → ExplainsAt picture pieces square

-- the players show a result, and the state explains what else is shown
abbrev pub EndsShown : List Piece → State → Type 0
EndsShown picture state =
    (result : GameResult) × KingsMean picture result × Explains picture (board state)

-- Kings and the centre don't count: elsewhere but on two squares, the picture shows these pieces.
abbrev pub IsAlmost : List Piece → List Piece → Type 0
IsAlmost picture pieces =
    (one : ℕ) × (other : ℕ) × ((square : ℕ) → square < 64 → square ≢ one → square ≢ other
    → StandsAs picture pieces square)

-- the players show the result of the state
abbrev pub ByKings : List Piece → State → GameResult → Type 0
ByKings picture state result = KingsMean picture result × IsLike picture (board state)

-- Whether a line has a result after an event, if it had one before or not. It has at most one.
abbrev pub HasResult : Bool → Event → Bool → Type 0
HasResult had (Event.Ended result) has = (had ≡ false) × (has ≡ true)
HasResult had (Event.Begun state is_turned) has = has ≡ false
HasResult had (Event.Back count stays) has = has ≡ false
HasResult had event has = has ≡ had

-- Whether a line is lost after an event, if it was before or not. It is lost and found in turn.
abbrev pub IsLost : Bool → Event → Bool → Type 0
IsLost was (Event.Lost squares) now = (was ≡ false) × (now ≡ true)
IsLost was Event.Found now = (was ≡ true) × (now ≡ false)
IsLost was event now = now ≡ was

-- ---- Laws

-- A state has one result by the rules, and only if its side to move has no legal move.
abbrev pub OneByRules : Type 0
OneByRules =
    (state : State) (result other : GameResult) → ByRules state result → ByRules state other
    → (result ≡ other) × ¬ (CanMove state)

-- the kings mean one result
abbrev pub OneByKings : Type 0
OneByKings =
    (picture : List Piece) (result other : GameResult) → KingsMean picture result
    → KingsMean picture other → result ≡ other

-- no two squares of a picture that is like the pieces show another piece
abbrev pub OneOther : Type 0
OneOther =
    (picture pieces : List Piece) (first second : ℕ) → first < 64 → second < 64
    → IsLike picture pieces → ¬ (FitsAt picture pieces first) → ¬ (FitsAt picture pieces second)
    → first ≡ second

-- whether a line has a result after events in turn
abbrev pub HasResults : Bool → List Event → Bool → Type 0
HasResults had [] has = has ≡ had
HasResults had (event ∷ events) has =
    (next : Bool) × HasResult had event next × HasResults next events has

-- no line begins, and no half-moves are taken back
abbrev pub Stay : List Event → Type 0
Stay [] = ⊤
Stay (Event.Begun state is_turned ∷ events) = ⊥
Stay (Event.Back count stays ∷ events) = ⊥
Stay (event ∷ events) = Stay events

-- between two results a line begins, or half-moves are taken back
abbrev pub OneResult : Type 0
OneResult =
    (first second : GameResult) (between : List Event) (had has : Bool) → Stay between
    → ¬ (HasResults had (Event.Ended first ∷ between ++ Event.Ended second ∷ []) has)

-- whether a line is lost after events in turn
abbrev pub AreLost : Bool → List Event → Bool → Type 0
AreLost was [] now = now ≡ was
AreLost was (event ∷ events) now =
    (next : Bool) × IsLost was event next × AreLost next events now

-- the line isn't found, and it isn't lost
abbrev pub NotFound : List Event → Type 0
NotFound [] = ⊤
NotFound (Event.Found ∷ events) = ⊥
NotFound (event ∷ events) = NotFound events

abbrev pub NotLost : List Event → Type 0
NotLost [] = ⊤
NotLost (Event.Lost squares ∷ events) = ⊥
NotLost (event ∷ events) = NotLost events

-- A line that is lost is found before it is lost again, and only then.
abbrev pub LostInTurn : Type 0
LostInTurn =
    (between : List Event) (was now : Bool)
    → ((first second : ℕ) → NotFound between
    → ¬ (AreLost was (Event.Lost first ∷ between ++ Event.Lost second ∷ []) now))
    × (NotLost between
    → ¬ (AreLost was (Event.Found ∷ between ++ Event.Found ∷ []) now))

-- the other side has won
abbrev pub lost_by : Colour → GameResult
lost_by Colour.White = GameResult.BlackWins
lost_by Colour.Black = GameResult.WhiteWins

-- Who is mated has lost, and a stalemate is a draw.
abbrev pub MatedHasLost : Type 0
MatedHasLost =
    (state : State) → ¬ (CanMove state)
    → (IsInCheck (board state) state.turn → ByRules state (lost_by state.turn))
    × (¬ (IsInCheck (board state) state.turn) → ByRules state GameResult.Draw)

-- two squares have these names, the one or the other way round
abbrev pub AreNamed : List ℕ → List ℕ → ℕ → ℕ → Type 0
AreNamed one other a b =
    ((square_name a ≡ one) × (square_name b ≡ other))
    ⊎ ((square_name a ≡ other) × (square_name b ≡ one))

-- on d5 and e4 White has won, on e5 and d4 Black; on e5 and e4, or on d5 and d4, it is a draw
abbrev pub AreNamedFor : GameResult → ℕ → ℕ → Type 0
AreNamedFor GameResult.WhiteWins a b = AreNamed (codes "d5") (codes "e4") a b
AreNamedFor GameResult.BlackWins a b = AreNamed (codes "e5") (codes "d4") a b
AreNamedFor GameResult.Draw a b =
    AreNamed (codes "e5") (codes "e4") a b ⊎ AreNamed (codes "d5") (codes "d4") a b

-- **What the kings mean**, each on one square.
abbrev pub KingsAreNamed : Type 0
KingsAreNamed =
    (picture : List Piece) (result : GameResult)
    → KingsMean picture result ↔ ((white black : ℕ) × IsOnlyOn picture Piece.WhiteKing white
    × IsOnlyOn picture Piece.BlackKing black × AreNamedFor result white black)

-- the centre is where the two files and the two ranks in the middle meet
abbrev pub CentreIsMiddle : Type 0
CentreIsMiddle =
    (square : ℕ) → IsCentre square ↔ ((3 ≤ file square) × (file square ≤ 4)
    × (3 ≤ row square) × (row square ≤ 4))

-- Elsewhere each piece of the state but a king stands or is gone, and nothing else is shown.
abbrev pub OthersStand : Type 0
OthersStand =
    (picture pieces : List Piece) (square : ℕ) → ¬ (IsCentre square)
    → ¬ (IsKing (piece_at pieces square))
    → FitsAt picture pieces square ↔ ((piece_at picture square ≡ piece_at pieces square)
    ⊎ (piece_at picture square ≡ Piece.Empty))

-- What explains a picture has the piece that stands on each square outside the middle.
abbrev pub ShownIsExplained : Type 0
ShownIsExplained =
    (picture pieces : List Piece)
    → Explains picture pieces ↔ ((square : ℕ) → square < 64
    → ¬ ((3 ≤ file square) × (file square ≤ 4) × (3 ≤ row square) × (row square ≤ 4))
    → piece_at picture square ≢ Piece.Empty
    → piece_at pieces square ≡ piece_at picture square)

-- It is like the pieces: no square shows another one.
abbrev pub ExplainedIsLike : Type 0
ExplainedIsLike =
    (picture : List Piece) (state : State) (result : GameResult) → KingsMean picture result
    → Explains picture (board state) → ByKings picture state result
