-- What lines, events and pictures mean, in other words.
use Rattle.std.specs.Prelude.{◌≡◌, ◌≢◌, ◌<◌, ◌≤◌, ◌⊎◌, ◌+◌, ⊤, ℕ, Bool, List, [], ◌∷◌, Some, Contains, length, slice_get, slice_set}
use Rattle.dgt_values.specs.declared.pieces.Piece.{Piece}
use Rattle.dgt_values.specs.Board.{square_number}
use Rattle.dgt_chess.specs.declared.pieces.Man.{Man}
use Rattle.dgt_chess.specs.declared.state.Move.{Move}
use Rattle.dgt_chess.specs.declared.state.State.{State}
use Rattle.dgt_chess.specs.Attacks.{piece_at, piece_of}
use Rattle.dgt_chess.specs.Rules.{IsStart, Legal, board}
use Rattle.dgt_game.specs.declared.event.Event.{Event}
use Rattle.dgt_game.specs.declared.event.GameResult.{GameResult}
use Rattle.dgt_game.specs.declared.event.Moves.{Moves}
use Rattle.dgt_game.specs.Lines.{IsLine, IsMove, moves_of}
use Rattle.dgt_game.specs.Results.{Explains, IsKing, KingsMean}
use Rattle.dgt_game.specs.Told.{IsHeld, IsLegalTold, IsShown, Joins, LacksMen, Leads, Told, WasShown, as_shown, told_pieces}

-- Each state follows the one before by as many legal half-moves, and the board is turned as it was.
abbrev pub AreJoined : List Told → Type 0
AreJoined [] = ⊤
AreJoined (told ∷ []) = told.halves ≡ 0
AreJoined (told ∷ before ∷ line) =
    Joins told.halves before.state told.state × (told.is_turned ≡ before.is_turned)
    × AreJoined (before ∷ line)

-- legal events lead to such a line
abbrev pub LegalIsJoined : Type 0
LegalIsJoined =
    (events : List Event) (line : List Told) → IsLegalTold [] events line → AreJoined line

abbrev pub halves_in : List Told → ℕ
halves_in [] = 0
halves_in (told ∷ line) = told.halves + halves_in line

-- what a line begins with, by its last state and those before
abbrev pub first_of : Told → List Told → Told
first_of told [] = told
first_of told (before ∷ line) = first_of before line

-- such a line is one legal line of all its half-moves, on one side of the board
abbrev pub JoinedIsOne : Type 0
JoinedIsOne =
    (last : Told) (line : List Told) → AreJoined (last ∷ line)
    → Joins (halves_in (last ∷ line)) (first_of last line).state last.state
    × ((first_of last line).is_turned ≡ last.is_turned)

-- no half-moves lead to no other state, and a single one is a legal move
abbrev pub NoneAndOne : Type 0
NoneAndOne =
    (state new : State) → (Joins 0 state new → state ≡ new)
    × (Joins 1 state new → (one : Move) × IsMove state one new
    × Legal state (square_number one.from) (square_number one.to) one.promotion)

-- an event leads to one line
abbrev pub OneLine : Type 0
OneLine =
    (line new other : List Told) (event : Event) → Leads line event new → Leads line event other
    → new ≡ other

-- No other legal line of as many half-moves as were reported leads to the same pieces.
abbrev pub UnseenIsOnly : Type 0
UnseenIsOnly =
    (last told : Told) (line new : List Told) (moves : Moves) (others : List Move) (end : State)
    → Leads (last ∷ line) (Event.Unseen moves) (told ∷ new) → IsLine last.state others end
    → length others ≡ length (moves_of moves) → board end ≡ board told.state
    → others ≡ moves_of moves

-- As many half-moves are taken back as are reported, and never the state that a line begins with.
abbrev pub BackIsCounted : Type 0
BackIsCounted =
    (line new : List Told) (count : ℕ) (stays : Bool) → Leads line (Event.Back count stays) new
    → (new ≢ []) × (halves_in line ≡ count + halves_in new)

-- A position after several half-moves was shown as it is.
abbrev pub SeveralAreShown : Type 0
SeveralAreShown =
    (shown : List (List Piece)) (line : List Told) (n : ℕ) (told : Told) → IsShown shown line
    → slice_get line n ≡ Some told → 2 ≤ told.halves → Contains shown (told_pieces told)

-- After a single one, pieces of the side to move may have been in hands, or one piece gone, or the
-- kings gave a result and some pieces were gone.
abbrev pub OneIsShown : Type 0
OneIsShown =
    (shown : List (List Piece)) (told : Told) → WasShown shown told → told.halves ≡ 1
    → (picture : List Piece) × Contains shown picture
    × (IsHeld (as_shown told.is_turned picture) told.state
    ⊎ ((result : GameResult) × KingsMean (as_shown told.is_turned picture) result
    × Explains (as_shown told.is_turned picture) (board told.state)))

-- Such a picture is enough.
abbrev pub EndIsShown : Type 0
EndIsShown =
    (shown : List (List Piece)) (told : Told) (picture : List Piece) (result : GameResult)
    → told.halves ≡ 1 → Contains shown picture
    → KingsMean (as_shown told.is_turned picture) result
    → Explains (as_shown told.is_turned picture) (board told.state) → WasShown shown told

-- No two squares lack pieces that aren't the side's to move.
abbrev pub OthersAreHeld : Type 0
OthersAreHeld =
    (picture : List Piece) (state : State) (first second : ℕ) → IsHeld picture state → first < 64
    → second < 64 → piece_at picture first ≢ piece_at (board state) first
    → ((man : Man) → piece_at (board state) first ≢ piece_of state.turn man)
    → piece_at picture second ≢ piece_at (board state) second
    → ((man : Man) → piece_at (board state) second ≢ piece_of state.turn man) → first ≡ second

-- If a square lacks one, it is empty, the piece isn't a king, and all else is shown.
abbrev pub OneIsGone : Type 0
OneIsGone =
    (picture : List Piece) (state : State) (k : ℕ) → IsHeld picture state → k < 64
    → piece_at picture k ≢ piece_at (board state) k
    → ((man : Man) → piece_at (board state) k ≢ piece_of state.turn man)
    → (piece_at picture k ≡ Piece.Empty) × ¬ (IsKing (piece_at (board state) k))
    × ((square : ℕ) → square ≢ k → piece_at picture square ≡ piece_at (board state) square)

-- Pieces of the side to move may lack, or any single piece that isn't a king.
abbrev pub HeldMayLack : Type 0
HeldMayLack =
    (picture : List Piece) (state : State)
    → (LacksMen picture state → IsHeld picture state)
    × ((square : ℕ) → square < 64 → piece_at (board state) square ≢ Piece.Empty
    → ¬ (IsKing (piece_at (board state) square))
    → picture ≡ slice_set (board state) square Piece.Empty → IsHeld picture state)

-- no piece stands elsewhere
abbrev pub ShownIsHeld : Type 0
ShownIsHeld =
    (picture : List Piece) (state : State) (k : ℕ) → IsHeld picture state → k < 64
    → piece_at picture k ≢ Piece.Empty → piece_at picture k ≡ piece_at (board state) k

-- Without pictures, there is only the state in which games begin.
abbrev pub StartIsShown : Type 0
StartIsShown = (told : Told) → WasShown [] told → (told.halves ≡ 0) × IsStart told.state
