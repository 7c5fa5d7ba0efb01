-- How C describes states of a game and moves, and what calls report of them.
use Rattle.std.specs.Prelude.{◌≡◌, ◌⊎◌, ◌↔◌, ℕ, ◌<◌, List, [], ◌∷◌, map, replicate, slice_index, IsBitSet, Option, Some, None, option_map}
use Rattle.dgt_values.specs.declared.pieces.Piece.{Piece}
use Rattle.dgt_values.specs.declared.squares.Square.{Square}
use Rattle.dgt_values.specs.Board.{piece_code, square_number}
use Rattle.dgt_chess.specs.declared.pieces.Colour.{Colour}
use Rattle.dgt_chess.specs.declared.pieces.Man.{Man}
use Rattle.dgt_chess.specs.declared.possible.Impossible.{Impossible}
use Rattle.dgt_chess.specs.declared.possible.Rights.{Rights}
use Rattle.dgt_chess.specs.declared.state.Move.{Move}
use Rattle.dgt_chess.specs.declared.state.State.{State}
use Rattle.dgt_chess.specs.Attacks.{piece_of}
use Rattle.dgt_chess.specs.Possible.{Refuses}
use Rattle.dgt_chess.specs.Rules.{board, CanGo, IsAfter, Legal, LegalBy, Reaches}
use Rattle.dgt_c.specs.Hearing.{flag}
use Rattle.dgt_c.specs.declared.header.DgtChessMove.{DgtChessMove}
use Rattle.dgt_c.specs.declared.header.DgtChessState.{DgtChessState}
use Rattle.dgt_c.specs.declared.header.TheConstants.{CHESS_BAD_KINGS, CHESS_BAD_MEMBER, CHESS_BAD_NUMBER, CHESS_BAD_PASSED, CHESS_BAD_PAWN, CHESS_BAD_RIGHTS, CHESS_BLACK, CHESS_DONE, CHESS_EXTRA_PIECE, CHESS_IN_CHECK, CHESS_WHITE, NONE}

-- ---- States

abbrev pub colour_number : Colour → ℕ
colour_number Colour.White = CHESS_WHITE
colour_number Colour.Black = CHESS_BLACK

abbrev pub rights_flags : Rights → List ℕ
rights_flags rights =
    flag rights.white_short ∷ flag rights.white_long ∷ flag rights.black_short
    ∷ flag rights.black_long ∷ []

abbrev pub passed_number : Option Square → ℕ
passed_number None = NONE
passed_number (Some square) = square_number square

-- the struct describes these parts of a state, whether or not a game reaches it
pub record SaysParts (said : DgtChessState) (pieces : List Piece) (turn : Colour) (rights : Rights)
    (passed : Option Square) (half_moves number : ℕ) : Type 0 where
  pub pieces_said : said.pieces ≡ map piece_code pieces
  pub half_moves_said : said.half_moves ≡ half_moves
  pub number_said : said.number ≡ number
  pub turn_said : said.turn ≡ colour_number turn
  pub rights_said : said.rights ≡ rights_flags rights
  pub passed_said : said.passed ≡ passed_number passed
  pub reserved : said.reserved ≡ replicate 6 0

-- each member has a value that is listed for it
abbrev pub HasParts : DgtChessState → Type 0
HasParts said =
    (pieces : List Piece) × (turn : Colour) × (rights : Rights) × (passed : Option Square)
    × (half_moves number : ℕ) × SaysParts said pieces turn rights passed half_moves number

-- the struct describes this state
abbrev pub SaysState : DgtChessState → State → Type 0
SaysState said state =
    SaysParts said (board state) state.turn state.rights state.passed state.half_moves state.number

abbrev pub IsState : DgtChessState → Type 0
IsState said = (state : State) × SaysState said state

-- the struct describes a state of this kind
abbrev pub IsStateThat : DgtChessState → (State → Type 0) → Type 0
IsStateThat said Is = (state : State) × SaysState said state × Is state

-- no game reaches what the struct describes, and this is the first reason
abbrev pub RefusesState : DgtChessState → Impossible → Type 0
RefusesState said why =
    (pieces : List Piece) × (turn : Colour) × (rights : Rights) × (passed : Option Square)
    × (half_moves number : ℕ) × SaysParts said pieces turn rights passed half_moves number
    × Refuses why pieces turn rights (option_map square_number passed) number

abbrev pub reason_status : Impossible → ℕ
reason_status Impossible.Kings = CHESS_BAD_KINGS
reason_status Impossible.Extra = CHESS_EXTRA_PIECE
reason_status Impossible.Pawn = CHESS_BAD_PAWN
reason_status Impossible.Check = CHESS_IN_CHECK
reason_status Impossible.Rights = CHESS_BAD_RIGHTS
reason_status Impossible.Passed = CHESS_BAD_PASSED
reason_status Impossible.Number = CHESS_BAD_NUMBER

-- the status of a struct: it describes a state, or why it doesn't
abbrev pub HasStatus : DgtChessState → ℕ → Type 0
HasStatus said status =
    (IsState said × (status ≡ CHESS_DONE))
    ⊎ ((why : Impossible) × RefusesState said why × (status ≡ reason_status why))
    ⊎ (¬ (HasParts said) × (status ≡ CHESS_BAD_MEMBER))

-- ---- Moves

-- the code of the white piece of the kind, or 0
abbrev pub promotion_code : Option Man → ℕ
promotion_code None = 0
promotion_code (Some man) = piece_code (piece_of Colour.White man)

-- the struct describes this move
pub record SaysMove (said : DgtChessMove) (one : Move) : Type 0 where
  pub from : said.from ≡ square_number one.from
  pub to : said.to ≡ square_number one.to
  pub promotion : said.promotion ≡ promotion_code one.promotion
  pub reserved : said.reserved ≡ 0

-- the structs describe a state and a legal move
abbrev pub SaysLegal : DgtChessState → DgtChessMove → Type 0
SaysLegal said move =
    (state : State) × (one : Move) × SaysState said state × SaysMove move one
    × Legal state (square_number one.from) (square_number one.to) one.promotion

-- the structs describe a state, a legal move and the state after it
abbrev pub Plays : DgtChessState → DgtChessMove → DgtChessState → Type 0
Plays said move new =
    (state : State) × (one : Move) × (man : Man) × (after : State) × SaysState said state
    × SaysMove move one × SaysState new after
    × LegalBy man state (square_number one.from) (square_number one.to) one.promotion
    × IsAfter man state (square_number one.from) (square_number one.to) one.promotion after

-- bit `to` of the number at `from` is set exactly if a legal move has these ends
abbrev pub AreGoals : State → List ℕ → Type 0
AreGoals state goals =
    (from to : ℕ) → from < 64 → to < 64 → IsBitSet (slice_index goals from) to ↔ CanGo state from to

-- a legal move of the state in the struct leads to the pieces with these codes
abbrev pub LeadsTo : DgtChessState → List ℕ → Move → Type 0
LeadsTo said codes one =
    (state : State) × (pieces : List Piece) × SaysState said state × (map piece_code pieces ≡ codes)
    × Reaches state pieces (square_number one.from) (square_number one.to) one.promotion

-- Only for bodies: what was read, and nothing else is described.

abbrev pub IsOnlyState : DgtChessState → State → Type 0
IsOnlyState said state =
    SaysState said state × ((other : State) → SaysState said other → other ≡ state)

abbrev pub IsOnlyMove : DgtChessMove → Move → Type 0
IsOnlyMove said one = SaysMove said one × ((other : Move) → SaysMove said other → other ≡ one)
