-- What C calls take as seen of a board, and how they report events of a game.
use Rattle.std.specs.Prelude.{◌≡◌, ℕ, Bool, List, [], ◌∷◌, ◌++◌, length, drop, map, replicate, Option, Some, None}
use Rattle.dgt_values.specs.Board.{piece_code, pieces_of, square_number}
use Rattle.dgt_chess.specs.declared.pieces.Colour.{Colour}
use Rattle.dgt_chess.specs.declared.state.Move.{Move}
use Rattle.dgt_chess.specs.declared.state.State.{State}
use Rattle.dgt_chess.specs.Rules.{board}
use Rattle.dgt_game.specs.declared.event.Event.{Event}
use Rattle.dgt_game.specs.declared.event.GameResult.{GameResult}
use Rattle.dgt_game.specs.declared.event.TheConstants.{GAP}
use Rattle.dgt_game.specs.declared.observation.Observation.{Observation}
use Rattle.dgt_game.specs.declared.observation.Sight.{Sight}
use Rattle.dgt_game.specs.Lines.{moves_of}
use Rattle.dgt_c.specs.Chess.{colour_number, passed_number, promotion_code, rights_flags}
use Rattle.dgt_c.specs.Hearing.{flag}
use Rattle.dgt_c.specs.declared.header.DgtChessMove.{DgtChessMove}
use Rattle.dgt_c.specs.declared.header.DgtChessState.{DgtChessState}
use Rattle.dgt_c.specs.declared.header.DgtGameEvent.{DgtGameEvent}
use Rattle.dgt_c.specs.declared.header.TheConstants.{GAME_BACK, GAME_BEGUN, GAME_ENDED, GAME_FOUND, GAME_GAP, GAME_LOST, GAME_MADE, GAME_UNSEEN, NONE, NO_CHESS_MOVE, NO_GAME_EVENT, RESULT_BLACK_WINS, RESULT_DRAW, RESULT_WHITE_WINS, SIGHT_AWAY, SIGHT_DOUBTED, SIGHT_SURE}

-- ---- What is seen

-- these codes of pieces and this number describe the sight
abbrev pub SaysSight : List ℕ → ℕ → Sight → Type 0
SaysSight codes sight (Sight.Sure position) =
    (sight ≡ SIGHT_SURE) × (map piece_code (pieces_of position) ≡ codes)
SaysSight codes sight (Sight.Doubted position) =
    (sight ≡ SIGHT_DOUBTED) × (map piece_code (pieces_of position) ≡ codes)
SaysSight codes sight Sight.Away = sight ≡ SIGHT_AWAY

abbrev pub side_number : Option Colour → ℕ
side_number None = NONE
side_number (Some colour) = colour_number colour

-- the arguments describe this observation
pub record SaysObservation (now : ℕ) (codes : List ℕ) (sight : ℕ) (confirmed : Bool) (running : ℕ)
    (seen : Observation) : Type 0 where
  pub at_said : seen.at ≡ now
  pub sight_said : SaysSight codes sight seen.sight
  pub confirmed_said : seen.is_confirmed ≡ confirmed
  pub running_said : running ≡ side_number seen.running

-- ---- Events

abbrev pub result_number : GameResult → ℕ
result_number GameResult.WhiteWins = RESULT_WHITE_WINS
result_number GameResult.BlackWins = RESULT_BLACK_WINS
result_number GameResult.Draw = RESULT_DRAW

-- the struct that describes a state
abbrev pub state_reported : State → DgtChessState
state_reported state = record {
  pieces = map piece_code (board state);
  half_moves = state.half_moves;
  number = state.number;
  turn = colour_number state.turn;
  rights = rights_flags state.rights;
  passed = passed_number state.passed;
  reserved = replicate 6 0;
}

-- the struct that describes a move
abbrev pub move_reported : Move → DgtChessMove
move_reported one = record {
  from = square_number one.from;
  to = square_number one.to;
  promotion = promotion_code one.promotion;
  reserved = 0;
}

-- the structs that describe moves, and zeros after them
abbrev pub moves_reported : List Move → List DgtChessMove
moves_reported moves =
    map move_reported moves ++ drop (length moves) (replicate GAP NO_CHESS_MOVE)

-- the struct of this event
abbrev pub game_event_reported : Event → DgtGameEvent
game_event_reported (Event.Begun state is_turned) = record NO_GAME_EVENT {
  kind = GAME_BEGUN;
  turned = flag is_turned;
  state = state_reported state;
}
game_event_reported (Event.Made one) =
    record NO_GAME_EVENT { kind = GAME_MADE; count = 1; moves = moves_reported (one ∷ []) }
game_event_reported (Event.Unseen moves) = record NO_GAME_EVENT {
  kind = GAME_UNSEEN;
  count = length (moves_of moves);
  moves = moves_reported (moves_of moves);
}
game_event_reported (Event.Gap state count) =
    record NO_GAME_EVENT { kind = GAME_GAP; count = count; state = state_reported state }
game_event_reported (Event.Back count stays) =
    record NO_GAME_EVENT { kind = GAME_BACK; count = count; stays = flag stays }
game_event_reported (Event.Ended outcome) =
    record NO_GAME_EVENT { kind = GAME_ENDED; result = result_number outcome }
game_event_reported (Event.Lost squares) =
    record NO_GAME_EVENT { kind = GAME_LOST; squares = squares }
game_event_reported Event.Found = record NO_GAME_EVENT { kind = GAME_FOUND }
