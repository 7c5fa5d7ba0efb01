-- Forsyth-Edwards Notation: six fields, with a space between two.
use Prim.Native.Char.{code as ascii}
use Rattle.std.specs.Prelude.{◌≡◌, ◌≢◌, ◌↔◌, ◌⊎◌, ℕ, zero, suc, ◌+◌, ◌/◌, ◌%◌, ◌<◌, ◌≤◌, ◌^◌, nat_eq, Bool, if◌then◌else◌, List, [], ◌∷◌, ◌++◌, length, slice_index, take, codes, decimal, Option, Some, None, option_map, Result, MatchResult}
use Rattle.std.specs.List.{count_by}
use Rattle.dgt_values.specs.declared.pieces.Piece.{Piece}
use Rattle.dgt_values.specs.declared.squares.Square.{Square}
use Rattle.dgt_values.specs.Board.{square_name, square_number}
use Rattle.dgt_values.specs.Placement.{IsPlacement, placement_text}
use Rattle.dgt_chess.specs.declared.pieces.Colour.{Colour}
use Rattle.dgt_chess.specs.declared.pieces.Man.{Man}
use Rattle.dgt_chess.specs.declared.possible.Rights.{Rights}
use Rattle.dgt_chess.specs.declared.fen.FenField.{FenField}
use Rattle.dgt_chess.specs.declared.fen.BadFen.{BadFen}
use Rattle.dgt_chess.specs.declared.state.State.{State}
use Rattle.dgt_chess.specs.Possible.{Refuses}
use Rattle.dgt_chess.specs.Rules.{board, passed, Legal, LegalBy, TakesPassing}

abbrev pub turn_text : Colour → List ℕ
turn_text Colour.White = codes "w"
turn_text Colour.Black = codes "b"

-- the letter of a right that remains
abbrev pub right_text : Bool → ℕ → List ℕ
right_text remains letter = if remains then letter ∷ [] else []

abbrev pub or_hyphen : List ℕ → List ℕ
or_hyphen [] = codes "-"
or_hyphen text = text

-- the letters of the rights that remain, or a hyphen
abbrev pub rights_text : Rights → List ℕ
rights_text rights =
    or_hyphen
    (right_text rights.white_short (ascii "K") ++ right_text rights.white_long (ascii "Q")
    ++ right_text rights.black_short (ascii "k") ++ right_text rights.black_long (ascii "q"))

-- the square that a pawn has just passed over, or a hyphen
abbrev pub passed_text : Option Square → List ℕ
passed_text None = codes "-"
passed_text (Some square) = square_name (square_number square)

-- a number below 65,536, without leading zeros
abbrev pub IsDecimal : ℕ → List ℕ → Type 0
IsDecimal number text = (number < 2 ^ 16) × (text ≡ decimal number)

-- a text of the first kind, a space, and a text of the second kind
pub record Then (First Rest : List ℕ → Type 0) (text : List ℕ) : Type 0 where
  pub first : List ℕ
  pub rest : List ℕ
  pub is_first : First first
  pub is_rest : Rest rest
  pub joined : text ≡ first ++ ascii " " ∷ rest

-- the half-moves since the last capture or move of a pawn, and the number of the move
abbrev pub Counters : ℕ → ℕ → List ℕ → Type 0
Counters half_moves number = Then (IsDecimal half_moves) (IsDecimal number)

-- the square that a pawn has just passed over, and these
abbrev pub FromPassed : Option Square → ℕ → ℕ → List ℕ → Type 0
FromPassed passed half_moves number =
    Then (λ field. field ≡ passed_text passed) (Counters half_moves number)

-- the rights to castle, and these
abbrev pub FromRights : Rights → Option Square → ℕ → ℕ → List ℕ → Type 0
FromRights rights passed half_moves number =
    Then (λ field. field ≡ rights_text rights) (FromPassed passed half_moves number)

-- the side to move, and these
abbrev pub FromTurn : Colour → Rights → Option Square → ℕ → ℕ → List ℕ → Type 0
FromTurn turn rights passed half_moves number =
    Then (λ field. field ≡ turn_text turn) (FromRights rights passed half_moves number)

-- the pieces, and these: the whole text
abbrev pub IsFen : List ℕ → List Piece → Colour → Rights → Option Square → ℕ → ℕ → Type 0
IsFen text pieces turn rights passed half_moves number =
    Then (λ field. IsPlacement field pieces) (FromTurn turn rights passed half_moves number) text

-- a text of some pieces, side, rights, square and numbers
abbrev pub IsAnyFen : List ℕ → Type 0
IsAnyFen text =
    (pieces : List Piece) × (turn : Colour) × (rights : Rights) × (passed : Option Square)
    × (half_moves number : ℕ) × IsFen text pieces turn rights passed half_moves number

-- The first wrong byte: a text of this kind agrees with this one up to the offset, and none agrees
-- with it in the byte there, too. At the text's end the text is only too short.
pub record IsFirstWrong (Is : List ℕ → Type 0) (text : List ℕ) (at : ℕ) : Type 0 where
  pub within : at ≤ length text
  pub right : List ℕ
  pub is : Is right
  pub before : take at right ≡ take at text
  pub after : (other : List ℕ) → Is other → take (at + 1) other ≢ take (at + 1) text

-- the field in which an offset is: the number of spaces before it counts
abbrev pub field_of : ℕ → FenField
field_of zero = FenField.Placement
field_of (suc zero) = FenField.Turn
field_of (suc (suc zero)) = FenField.Rights
field_of (suc (suc (suc zero))) = FenField.Passed
field_of (suc (suc (suc (suc zero)))) = FenField.HalfMoves
field_of _ = FenField.Number

abbrev pub space_count : List ℕ → ℕ
space_count text = count_by (λ byte. nat_eq byte (ascii " ")) text

-- the text of a state
abbrev pub Fen : State → List ℕ → Type 0
Fen state text =
    IsFen text (board state) state.turn state.rights state.passed state.half_moves state.number

-- a text is not in the notation, or it is that of an impossible state
abbrev pub RefusesFen : List ℕ → BadFen → Type 0
RefusesFen text (BadFen.Text field at) =
    IsFirstWrong IsAnyFen text at × (field ≡ field_of (space_count (take at text)))
RefusesFen text (BadFen.Impossible why) =
    (pieces : List Piece) × (turn : Colour) × (rights : Rights) × (square : Option Square)
    × (half_moves number : ℕ) × IsFen text pieces turn rights square half_moves number
    × Refuses why pieces turn rights (option_map square_number square) number

-- the result is the state of the text, or why there is none
abbrev pub ParsesFen : List ℕ → Result State BadFen → Type 0
ParsesFen text r = MatchResult r (λ state. Fen state text) (RefusesFen text)

-- a legal move captures the pawn that has just passed over a square
unfoldable pub CanTakePassing : State → Type 0
CanTakePassing state =
    (from to : ℕ) × (from < 64) × (to < 64) × LegalBy Man.Pawn state from to None
    × TakesPassing (board state) state.turn (passed state) from to

-- the written square: only one on which a legal move captures
abbrev pub IsShown : State → Option Square → Type 0
IsShown state shown =
    (CanTakePassing state × (shown ≡ state.passed)) ⊎ (¬ (CanTakePassing state) × (shown ≡ None))

-- the written text
abbrev pub fen_text : State → Option Square → List ℕ
fen_text state shown =
    placement_text (board state) ++ ascii " " ∷ turn_text state.turn
    ++ ascii " " ∷ rights_text state.rights ++ ascii " " ∷ passed_text shown
    ++ ascii " " ∷ decimal state.half_moves ++ ascii " " ∷ decimal state.number

abbrev pub WritesFen : State → List ℕ → Type 0
WritesFen state text = (shown : Option Square) × IsShown state shown × (text ≡ fen_text state shown)

-- the same moves are legal in two states
abbrev pub SameMoves : State → State → Type 0
SameMoves first second =
    (from to : ℕ) (promotion : Option Man) → from < 64 → to < 64
    → Legal first from to promotion ↔ Legal second from to promotion

-- two states are the same but perhaps for the square that a pawn has just passed over
pub record SameBut (first second : State) : Type 0 where
  pub pieces : board first ≡ board second
  pub turn : first.turn ≡ second.turn
  pub rights : first.rights ≡ second.rights
  pub half_moves : first.half_moves ≡ second.half_moves
  pub number : first.number ≡ second.number

-- the result is a state with the same parts and the same legal moves, and with the written square
abbrev pub ReadsBack : State → Result State BadFen → Type 0
ReadsBack state r = MatchResult r
    (λ new. SameBut state new × SameMoves state new
    × ((shown : Option Square) × IsShown state shown
    × (passed new ≡ option_map square_number shown)))
    (λ _. ⊥)

-- Only for bodies: the kinds of the fields.

abbrev pub IsPieces : List ℕ → Type 0
IsPieces text = (pieces : List Piece) × IsPlacement text pieces

abbrev pub IsTurn : List ℕ → Type 0
IsTurn text = (turn : Colour) × (text ≡ turn_text turn)

abbrev pub IsRights : List ℕ → Type 0
IsRights text = (rights : Rights) × (text ≡ rights_text rights)

abbrev pub IsPassed : List ℕ → Type 0
IsPassed text = (passed : Option Square) × (text ≡ passed_text passed)

abbrev pub IsNumber : List ℕ → Type 0
IsNumber text = (number : ℕ) × IsDecimal number text

abbrev pub AreCounters : List ℕ → Type 0
AreCounters = Then IsNumber IsNumber

abbrev pub IsFromPassed : List ℕ → Type 0
IsFromPassed = Then IsPassed AreCounters

abbrev pub IsFromRights : List ℕ → Type 0
IsFromRights = Then IsRights IsFromPassed

abbrev pub IsFromTurn : List ℕ → Type 0
IsFromTurn = Then IsTurn IsFromRights

abbrev pub HasNoSpace : List ℕ → Type 0
HasNoSpace text = (at : ℕ) → at < length text → slice_index text at ≢ ascii " "

-- the four rights of a number below 16
abbrev pub rights_of : ℕ → Rights
rights_of code = record {
  white_short = nat_eq (code % 2) 1;
  white_long = nat_eq (code / 2 % 2) 1;
  black_short = nat_eq (code / 4 % 2) 1;
  black_long = nat_eq (code / 8 % 2) 1;
}
