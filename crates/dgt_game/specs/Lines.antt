-- Legal lines: half-moves in turn, each legal in the state before it.
use Rattle.std.specs.Prelude.{◌≡◌, ℕ, List, [], ◌∷◌, length, take}
use Rattle.dgt_values.specs.declared.pieces.Piece.{Piece}
use Rattle.dgt_values.specs.Board.{square_number}
use Rattle.dgt_chess.specs.declared.pieces.Man.{Man}
use Rattle.dgt_chess.specs.declared.state.State.{State}
use Rattle.dgt_chess.specs.declared.state.Move.{Move}
use Rattle.dgt_chess.specs.Rules.{LegalBy, IsAfter, board}
use Rattle.dgt_game.specs.declared.event.Moves.{Moves}

-- a legal move, and the state after it
unfoldable pub IsMove : State → Move → State → Type 0
IsMove state one new =
    (man : Man)
    × LegalBy man state (square_number one.from) (square_number one.to) one.promotion
    × IsAfter man state (square_number one.from) (square_number one.to) one.promotion new

-- a legal line of these moves, and the state after it
abbrev pub IsLine : State → List Move → State → Type 0
IsLine state [] new = state ≡ new
IsLine state (one ∷ moves) new = (next : State) × IsMove state one next × IsLine next moves new

-- a legal line of these moves leads to the pieces
unfoldable pub LeadsTo : State → List Move → List Piece → Type 0
LeadsTo state moves pieces = (new : State) × IsLine state moves new × (board new ≡ pieces)

-- no legal line of this many half-moves leads to the pieces
unfoldable pub NoLine : ℕ → State → List Piece → Type 0
NoLine count state pieces = (moves : List Move) → length moves ≡ count
    → ¬ (LeadsTo state moves pieces)

-- of the legal lines of as many half-moves, only this one leads to the pieces
unfoldable pub IsOnly : State → List Move → List Piece → Type 0
IsOnly state moves pieces =
    (others : List Move) → length others ≡ length moves → LeadsTo state others pieces
    → others ≡ moves

-- how clauses see moves
abbrev pub moves_of : Moves → List Move
moves_of moves = take moves.count moves.list
