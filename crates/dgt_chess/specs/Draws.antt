-- Draws: articles 5.2.2, 9.2, 9.3 and 9.6 of the FIDE Laws of Chess.
use Rattle.std.specs.Prelude.{◌≡◌, ◌≢◌, ◌↔◌, ℕ, ◌+◌, ◌%◌, ◌<◌, ◌⊎◌, List, [], ◌∷◌, Option, option_map}
use Rattle.dgt_values.specs.declared.pieces.Piece.{Piece}
use Rattle.dgt_values.specs.declared.squares.Square.{Square}
use Rattle.dgt_values.specs.Board.{square_number}
use Rattle.dgt_chess.specs.declared.pieces.Colour.{Colour}
use Rattle.dgt_chess.specs.declared.pieces.Man.{Man}
use Rattle.dgt_chess.specs.declared.state.State.{State}
use Rattle.dgt_chess.specs.Attacks.{file, row, piece_at, piece_of, IsFree}
use Rattle.dgt_chess.specs.Rules.{board, CanGo}
use Rattle.dgt_chess.specs.Fen.{IsShown}

-- a man of this kind stands there, of either side
unfoldable pub Holds : List Piece → Man → ℕ → Type 0
Holds pieces man square = (colour : Colour) × (piece_at pieces square ≡ piece_of colour man)

-- nothing stands there but a king
abbrev pub IsBare : List Piece → ℕ → Type 0
IsBare pieces square = IsFree pieces square ⊎ Holds pieces Man.King square

-- all other squares are bare
abbrev pub IsBareBut : List Piece → ℕ → Type 0
IsBareBut pieces square = (s : ℕ) → s < 64 → s ≢ square → IsBare pieces s

-- kings and one knight
unfoldable pub HasOneKnight : List Piece → Type 0
HasOneKnight pieces =
    (square : ℕ) × (square < 64) × Holds pieces Man.Knight square × IsBareBut pieces square

-- nothing but a king, or a bishop on a square of this colour: 0 for white, 1 for black
unfoldable pub FitsShade : List Piece → ℕ → ℕ → Type 0
FitsShade pieces shade square =
    IsBare pieces square
    ⊎ (Holds pieces Man.Bishop square × ((file square + row square) % 2 ≡ shade))

-- kings, and bishops that all stand on squares of this colour
unfoldable pub HasBishops : List Piece → ℕ → Type 0
HasBishops pieces shade = (square : ℕ) → square < 64 → FitsShade pieces shade square

-- "neither player can checkmate the opponent's king with any series of legal moves": the kinds of
-- such positions that need no look at the squares of kings and pawns
abbrev pub IsDead : List Piece → Type 0
IsDead pieces = HasOneKnight pieces ⊎ HasBishops pieces 0 ⊎ HasBishops pieces 1

-- "the same player has the move, pieces of the same kind and colour occupy the same squares and the
-- possible moves of all the pieces of both players are the same"
pub record IsRepeated (one state : State) : Type 0 where
  pub pieces : board one ≡ board state
  pub turn : one.turn ≡ state.turn
  pub rights : one.rights ≡ state.rights
  pub moves : (from to : ℕ) → from < 64 → to < 64 → CanGo one from to ↔ CanGo state from to

-- how many states of a list have this position
abbrev pub Counts : State → State → ℕ → Type 0
Counts one state n =
    (IsRepeated one state × (n ≡ 1)) ⊎ ((¬ (IsRepeated one state)) × (n ≡ 0))

abbrev pub Repeats : List State → State → ℕ → Type 0
Repeats [] state n = n ≡ 0
Repeats (one ∷ history) state n =
    (more rest : ℕ) × Counts one state more × Repeats history state rest × (n ≡ more + rest)

-- a position has occurred a certain number of times
abbrev pub OneCount : Type 0
OneCount =
    (history : List State) (state : State) (n m : ℕ) → Repeats history state n
    → Repeats history state m → n ≡ m

-- ---- what laws say

-- a knight or a bishop
abbrev pub IsMinor : List Piece → ℕ → Type 0
IsMinor pieces square = Holds pieces Man.Knight square ⊎ Holds pieces Man.Bishop square

-- kings, and perhaps one knight or bishop, are dead
abbrev pub FewAreDead : Type 0
FewAreDead =
    (pieces : List Piece) (square : ℕ) → square < 64 → IsBareBut pieces square
    → IsBare pieces square ⊎ IsMinor pieces square → IsDead pieces

-- all bishops stand on squares of one colour
abbrev pub HaveOneShade : List Piece → Type 0
HaveOneShade pieces =
    (one two : ℕ) → one < 64 → two < 64 → Holds pieces Man.Bishop one → Holds pieces Man.Bishop two
    → (file one + row one) % 2 ≡ (file two + row two) % 2

-- kings and such bishops are dead
abbrev pub BishopsAreDead : Type 0
BishopsAreDead =
    (pieces : List Piece)
    → ((square : ℕ) → square < 64 → IsBare pieces square ⊎ Holds pieces Man.Bishop square)
    → HaveOneShade pieces → IsDead pieces

-- nothing else counts as dead: no pawn, rook or queen, no knight beside another man, and no
-- bishops on squares of both colours
abbrev pub NothingElseIsDead : Type 0
NothingElseIsDead =
    (pieces : List Piece) → IsDead pieces
    → ((square : ℕ) → square < 64 → IsBare pieces square ⊎ IsMinor pieces square)
    × ((square : ℕ) → square < 64 → Holds pieces Man.Knight square → IsBareBut pieces square)
    × HaveOneShade pieces

-- the same pieces, side to move and rights, and the same square on which a legal move captures a
-- pawn that has just passed over it
pub record LooksAlike (first second : State) (shown shown' : Option Square) : Type 0 where
  pub pieces : board first ≡ board second
  pub turn : first.turn ≡ second.turn
  pub rights : first.rights ≡ second.rights
  pub passed : option_map square_number shown ≡ option_map square_number shown'

abbrev pub RepeatedLookAlike : Type 0
RepeatedLookAlike =
    (one state : State) (shown shown' : Option Square) → IsShown one shown → IsShown state shown'
    → IsRepeated one state ↔ LooksAlike one state shown shown'
