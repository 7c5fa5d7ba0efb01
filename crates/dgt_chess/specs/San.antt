-- Standard Algebraic Notation: appendix C of the FIDE Laws of Chess, in the export form of PGN.
use Prim.Native.Char.{code as ascii}
use Rattle.std.specs.Prelude.{◌≡◌, ◌≢◌, ℕ, ◌+◌, ◌-◌, ◌<◌, ◌⊎◌, Bool, true, false, not, nat_eq, if◌then◌else◌, List, [], ◌∷◌, ◌++◌, codes, Option, Some, None, Result, Ok, Err, MatchResult}
use Rattle.std.specs.Int.{abs_diff}
use Rattle.dgt_values.specs.declared.pieces.Piece.{Piece}
use Rattle.dgt_values.specs.Board.{square_name, square_number}
use Rattle.dgt_chess.specs.declared.pieces.Man.{Man}
use Rattle.dgt_chess.specs.declared.san.Sign.{Sign}
use Rattle.dgt_chess.specs.declared.san.Style.{Style}
use Rattle.dgt_chess.specs.declared.san_reader.BadSan.{BadSan}
use Rattle.dgt_chess.specs.declared.state.Move.{Move}
use Rattle.dgt_chess.specs.declared.state.State.{State}
use Rattle.dgt_chess.specs.Attacks.{file, row, piece_at, IsInCheck}
use Rattle.dgt_chess.specs.Rules.{board, is_free, LegalBy, IsAfter, CanMove}

-- a man's letter; a pawn has none
abbrev pub man_letter : Man → List ℕ
man_letter Man.Pawn = []
man_letter Man.Knight = codes "N"
man_letter Man.Bishop = codes "B"
man_letter Man.Rook = codes "R"
man_letter Man.Queen = codes "Q"
man_letter Man.King = codes "K"

abbrev pub file_letter : ℕ → ℕ
file_letter square = ascii "a" + file square

abbrev pub rank_digit : ℕ → ℕ
rank_digit square = ascii "8" - row square

-- the byte, if it is shown
abbrev pub shown : Bool → ℕ → List ℕ
shown true byte = byte ∷ []
shown false byte = []

abbrev pub promotion_text : Bool → Option Man → List ℕ
promotion_text equals None = []
promotion_text equals (Some new) = shown equals (ascii "=") ++ man_letter new

-- the king castles: it moves by two files
abbrev pub is_castling : Man → ℕ → ℕ → Bool
is_castling Man.King from to = nat_eq (abs_diff (file from) (file to)) 2
is_castling man from to = false

abbrev pub castling_letter : Bool → ℕ
castling_letter true = ascii "0"
castling_letter false = ascii "O"

abbrev pub castling_text : ℕ → ℕ → List ℕ
castling_text letter to =
    letter ∷ ascii "-" ∷ letter ∷ (if nat_eq (file to) 6 then [] else ascii "-" ∷ letter ∷ [])

-- a pawn captures if it changes its file, and another man if its goal is not free
abbrev pub captures : Man → List Piece → ℕ → ℕ → Bool
captures Man.Pawn pieces from to = not (nat_eq (file from) (file to))
captures man pieces from to = not (is_free (piece_at pieces to))

-- the man's letter, the file and the row that it leaves, a capture, its goal, and what it becomes
abbrev pub ordinary_text : Style → Man → Bool → ℕ → ℕ → Option Man → List ℕ
ordinary_text style man takes from to promotion =
    man_letter man ++ shown style.by_file (file_letter from)
    ++ shown style.by_rank (rank_digit from) ++ shown takes (ascii "x") ++ square_name to
    ++ promotion_text style.equals promotion

abbrev pub sign_text : Sign → List ℕ
sign_text Sign.Neither = []
sign_text Sign.Check = codes "+"
sign_text Sign.Mate = codes "#"

-- a move's text in a style
abbrev pub move_text : Style → Man → List Piece → ℕ → ℕ → Option Man → List ℕ
move_text style man pieces from to promotion =
    (if is_castling man from to
    then castling_text (castling_letter style.zero) to
    else ordinary_text style man (captures man pieces from to) from to promotion)
    ++ sign_text style.sign

-- another man of the kind can go there too
abbrev pub IsRival : Man → State → ℕ → ℕ → ℕ → Type 0
IsRival man state from to other = (other ≢ from) × LegalBy man state other to None

unfoldable pub HasRival : Man → State → ℕ → ℕ → Type 0
HasRival man state from to = (other : ℕ) × (other < 64) × IsRival man state from to other

-- one of them stands on the same file, or on the same row
unfoldable pub HasRivalOn : (ℕ → ℕ) → Man → State → ℕ → ℕ → Type 0
HasRivalOn line man state from to =
    (other : ℕ) × (other < 64) × (IsRival man state from to other × (line other ≡ line from))

-- What is shown of a square, if other men can go there too (any), some of them from the same file,
-- or from the same row: nothing if there is no other. Else the file, if none is on it. Else the
-- row, if none is on that. Else both.
abbrev pub Distinguishes : Type 0 → Type 0 → Type 0 → Bool → Bool → Type 0
Distinguishes any on_file on_row false false = ¬ any
Distinguishes any on_file on_row true false = any × ¬ on_file
Distinguishes any on_file on_row false true = on_file × ¬ on_row
Distinguishes any on_file on_row true true = on_file × on_row

-- whether the file and the row are shown; a pawn that captures shows its file
abbrev pub IsOrigin : Man → State → ℕ → ℕ → Bool → Bool → Type 0
IsOrigin Man.Pawn state from to by_file by_rank =
    (by_file ≡ captures Man.Pawn (board state) from to) × (by_rank ≡ false)
IsOrigin man state from to by_file by_rank =
    Distinguishes (HasRival man state from to) (HasRivalOn file man state from to)
    (HasRivalOn row man state from to) by_file by_rank

abbrev pub IsSign : State → Sign → Type 0
IsSign state Sign.Neither = ¬ (IsInCheck (board state) state.turn)
IsSign state Sign.Check = IsInCheck (board state) state.turn × CanMove state
IsSign state Sign.Mate = IsInCheck (board state) state.turn × ¬ (CanMove state)

-- the style of the export form, for a move of this man
pub record IsExport (man : Man) (state : State) (from to : ℕ) (promotion : Option Man)
    (style : Style) : Type 0 where
  pub origin : IsOrigin man state from to style.by_file style.by_rank
  pub equals : style.equals ≡ true
  pub letters : style.zero ≡ false
  pub new : State
  pub after : IsAfter man state from to promotion new
  pub sign : IsSign new style.sign

-- the move is legal, and this is its text
unfoldable pub IsSan : State → ℕ → ℕ → Option Man → List ℕ → Type 0
IsSan state from to promotion text =
    (man : Man) × LegalBy man state from to promotion
    × ((style : Style) × IsExport man state from to promotion style
    × (text ≡ move_text style man (board state) from to promotion))

-- The move is legal, and this is its text in some style: a sign may be missing, wrong or
-- superfluous. So may be its file and row, and the sign of equality. Castling may have digits.
unfoldable pub Fits : State → ℕ → ℕ → Option Man → List ℕ → Type 0
Fits state from to promotion text =
    (man : Man) × LegalBy man state from to promotion
    × ((style : Style) × (text ≡ move_text style man (board state) from to promotion))

-- the text of some move, legal or not, in some style
abbrev pub IsSanText : List ℕ → Type 0
IsSanText text =
    ((style : Style) × (man : Man) × (takes : Bool) × (from : ℕ) × (to : ℕ)
    × (promotion : Option Man) × (from < 64) × (to < 64) × (promotion ≢ Some Man.Pawn)
    × (promotion ≢ Some Man.King)
    × (text ≡ ordinary_text style man takes from to promotion ++ sign_text style.sign))
    ⊎ ((style : Style) × (to : ℕ)
    × (text ≡ castling_text (castling_letter style.zero) to ++ sign_text style.sign))

-- why a text that no legal move has, or fits, is refused
abbrev pub IsRefusal : List ℕ → BadSan → Type 0
IsRefusal text BadSan.NotSan = ¬ (IsSanText text)
IsRefusal text BadSan.NoMove = IsSanText text
IsRefusal text BadSan.Ambiguous = ⊥

-- the legal move with this text, or why there is none
abbrev pub ParsesSan : State → List ℕ → Result Move BadSan → Type 0
ParsesSan state text r = MatchResult r
    (λ one. IsSan state (square_number one.from) (square_number one.to) one.promotion text)
    (λ e. ((from to : ℕ) (promotion : Option Man) → from < 64 → to < 64
    → ¬ (IsSan state from to promotion text)) × IsRefusal text e)

-- of the squares below a bound: the only one from which a move fits the text, if there is one
abbrev pub FitsFrom : State → ℕ → Option Man → List ℕ → ℕ → Option ℕ → Type 0
FitsFrom state to promotion text bound None =
    (from : ℕ) → from < bound → ¬ (Fits state from to promotion text)
FitsFrom state to promotion text bound (Some only) =
    (only < bound) × Fits state only to promotion text
    × ((from : ℕ) → from < bound → Fits state from to promotion text → from ≡ only)

-- moves from two squares fit the text
unfoldable pub FitsSeveral : State → ℕ → Option Man → List ℕ → Type 0
FitsSeveral state to promotion text =
    (from : ℕ) × (from' : ℕ) × (from < 64) × (from' < 64) × (to < 64) × (from ≢ from')
    × Fits state from to promotion text × Fits state from' to promotion text

-- the only legal move that fits the text, or why there is none
abbrev pub FitsOnly : State → List ℕ → Result Move BadSan → Type 0
FitsOnly state text (Ok one) =
    Fits state (square_number one.from) (square_number one.to) one.promotion text
    × ((from to : ℕ) (promotion : Option Man) → from < 64 → to < 64
    → Fits state from to promotion text → (from ≡ square_number one.from)
    × (to ≡ square_number one.to) × (promotion ≡ one.promotion))
FitsOnly state text (Err BadSan.Ambiguous) =
    (to : ℕ) × (promotion : Option Man) × FitsSeveral state to promotion text
FitsOnly state text (Err e) =
    ((from to : ℕ) (promotion : Option Man) → from < 64 → to < 64
    → ¬ (Fits state from to promotion text)) × IsRefusal text e

-- no two legal moves share a text
abbrev pub OneMoveAText : Type 0
OneMoveAText =
    (state : State) (text : List ℕ) (from to from' to' : ℕ) (promotion promotion' : Option Man)
    → from < 64 → to < 64 → from' < 64 → to' < 64 → IsSan state from to promotion text
    → IsSan state from' to' promotion' text
    → (from ≡ from') × (to ≡ to') × (promotion ≡ promotion')

-- a legal move has one text
abbrev pub OneTextAMove : Type 0
OneTextAMove =
    (state : State) (from to : ℕ) (promotion : Option Man) (text text' : List ℕ)
    → from < 64 → to < 64 → IsSan state from to promotion text
    → IsSan state from to promotion text' → text ≡ text'

-- what was written is read back
abbrev pub WrittenIsRead : Type 0
WrittenIsRead =
    (state : State) (from to : ℕ) (promotion : Option Man) (text : List ℕ)
    (r : Result Move BadSan) → from < 64 → to < 64 → IsSan state from to promotion text
    → ParsesSan state text r → MatchResult r
    (λ one. (square_number one.from ≡ from) × (square_number one.to ≡ to)
    × (one.promotion ≡ promotion))
    (λ _. ⊥)

-- a text has one lenient reading
abbrev pub OneLenientReading : Type 0
OneLenientReading =
    (state : State) (text : List ℕ) (r r' : Result Move BadSan) → FitsOnly state text r
    → FitsOnly state text r' → r ≡ r'

-- what is read strictly is read leniently as the same move
abbrev pub StrictIsLenient : Type 0
StrictIsLenient =
    (state : State) (text : List ℕ) (one : Move) (r : Result Move BadSan)
    → ParsesSan state text (Ok one) → FitsOnly state text r → r ≡ Ok one
