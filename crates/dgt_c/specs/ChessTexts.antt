-- What C calls report of texts of states and moves.
use Rattle.std.specs.Prelude.{◌≡◌, ◌⊎◌, ℕ, List, Result, Ok, Err}
use Rattle.dgt_values.specs.Board.{square_number}
use Rattle.dgt_chess.specs.declared.fen.BadFen.{BadFen}
use Rattle.dgt_chess.specs.declared.fen.FenField.{FenField}
use Rattle.dgt_chess.specs.declared.san_reader.BadSan.{BadSan}
use Rattle.dgt_chess.specs.declared.state.Move.{Move}
use Rattle.dgt_chess.specs.declared.state.State.{State}
use Rattle.dgt_chess.specs.Fen.{ParsesFen, WritesFen}
use Rattle.dgt_chess.specs.San.{IsSan}
use Rattle.dgt_c.specs.Chess.{HasStatus, IsState, SaysMove, SaysState, reason_status}
use Rattle.dgt_c.specs.Slices.{with_text}
use Rattle.dgt_c.specs.declared.header.DgtChessFenRead.{DgtChessFenRead}
use Rattle.dgt_c.specs.declared.header.DgtChessMove.{DgtChessMove}
use Rattle.dgt_c.specs.declared.header.DgtChessState.{DgtChessState}
use Rattle.dgt_c.specs.declared.header.TheConstants.{CHESS_AMBIGUOUS, CHESS_BAD_TEXT, CHESS_DONE, CHESS_NO_MOVE}

-- ---- Forsyth-Edwards Notation

abbrev pub field_number : FenField → ℕ
field_number FenField.Placement = 0
field_number FenField.Turn = 1
field_number FenField.Rights = 2
field_number FenField.Passed = 3
field_number FenField.HalfMoves = 4
field_number FenField.Number = 5

abbrev pub fen_reported : Result State BadFen → DgtChessFenRead
fen_reported (Ok state) = record { status = CHESS_DONE; field = 0; at = 0 }
fen_reported (Err (BadFen.Text field at)) =
    record { status = CHESS_BAD_TEXT; field = field_number field; at = at }
fen_reported (Err (BadFen.Impossible why)) =
    record { status = reason_status why; field = 0; at = 0 }

-- the struct, before and after, if a state was read or none
abbrev pub LeavesState : Result State BadFen → DgtChessState → DgtChessState → Type 0
LeavesState (Ok state) old new = SaysState new state
LeavesState (Err fault) old new = new ≡ old

-- the struct describes the state of the text, or it is unchanged and the fault is reported
abbrev pub ReadsFen : List ℕ → DgtChessState → DgtChessState → DgtChessFenRead → Type 0
ReadsFen text old new reported =
    (r : Result State BadFen) × ParsesFen text r × LeavesState r old new
    × (reported ≡ fen_reported r)

-- the text of the state in the struct is written, and a zero byte
abbrev pub PutsFen : DgtChessState → List ℕ → List ℕ → Type 0
PutsFen said old new =
    (state : State) × (text : List ℕ) × SaysState said state × WritesFen state text
    × (new ≡ with_text text old)

-- ---- Standard Algebraic Notation

-- the text of the legal move in the struct is written, and a zero byte
abbrev pub PutsSan : DgtChessState → DgtChessMove → List ℕ → List ℕ → Type 0
PutsSan said move old new =
    (state : State) × (one : Move) × (text : List ℕ) × SaysState said state × SaysMove move one
    × IsSan state (square_number one.from) (square_number one.to) one.promotion text
    × (new ≡ with_text text old)

abbrev pub san_status : Result Move BadSan → ℕ
san_status (Ok one) = CHESS_DONE
san_status (Err BadSan.NotSan) = CHESS_BAD_TEXT
san_status (Err BadSan.NoMove) = CHESS_NO_MOVE
san_status (Err BadSan.Ambiguous) = CHESS_AMBIGUOUS

-- the struct, before and after, if a move was read or none
abbrev pub LeavesMove : Result Move BadSan → DgtChessMove → DgtChessMove → Type 0
LeavesMove (Ok one) old new = SaysMove new one
LeavesMove (Err fault) old new = new ≡ old

-- The text is read so for the state in the struct. If it describes none, its status is reported.
abbrev pub ReadsSan : (State → List ℕ → Result Move BadSan → Type 0) → DgtChessState → List ℕ
    → DgtChessMove → DgtChessMove → ℕ → Type 0
ReadsSan Parses said text old new status =
    ((state : State) × (r : Result Move BadSan) × SaysState said state × Parses state text r
    × LeavesMove r old new × (status ≡ san_status r))
    ⊎ (¬ (IsState said) × HasStatus said status × (new ≡ old))
