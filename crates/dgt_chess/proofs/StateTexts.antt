-- The texts of states.
use Rattle.{std.{proofs.Common.{◌≡◌, ◌≢◌, ℕ, List, rules}, specs.Prelude.{Option}}, dgt_values.specs.{declared.{positions.Position.{Position}, squares.Square.{Square}}, Board.{pieces_of}}}
use Rattle.dgt_chess.specs.{declared.{fen.FenField.{FenField}, pieces.Colour.{Colour}, possible.Rights.{Rights}, state.State.{State}}, Fen.{Fen, IsFen, field_of}}

-- after five spaces
pub last_field : (n : ℕ) → n ≢ 0 → n ≢ 1 → n ≢ 2 → n ≢ 3 → n ≢ 4 → field_of n ≡ FenField.Number
last_field n a b c d e = search rules

-- a state of the parts that were read
pub state_fen : (text : List ℕ) (state : State) (position : Position) (turn : Colour)
    (rights : Rights)
    (passed : Option Square) (half_moves number : ℕ) → state.position ≡ position → state.turn ≡ turn
    → state.rights ≡ rights → state.passed ≡ passed → state.half_moves ≡ half_moves
    → state.number ≡ number
    → IsFen text (pieces_of position) turn rights passed half_moves number → Fen state text
state_fen text state position turn rights passed half_moves number p t r s h n is =
    rw (p, t, r, s, h, n) is
