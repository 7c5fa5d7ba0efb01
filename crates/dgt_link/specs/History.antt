-- The pieces that a host shows on a square, and the pieces that were there.
use Rattle.std.specs.Prelude.{◌≡◌, ◌⊎◌, ℕ, List, [], ◌∷◌, ◌++◌, Option, option_map, option_to_list, map}
use Rattle.std.specs.List.{flat_map}
use Rattle.dgt_values.specs.declared.pieces.Piece.{Piece}
use Rattle.dgt_board.specs.Sending.{piece_on}
use Rattle.dgt_link.specs.declared.acts.Outcome.{Outcome}
use Rattle.dgt_link.specs.Act.{ActContent}
use Rattle.dgt_link.specs.Machine.{MachineState, Move, after_move}
use Rattle.dgt_link.specs.Step.{Step}
use Rattle.dgt_link.specs.View.{WorldView}

-- Each element of the first list is one of the second, in order. One may be repeated several times.
abbrev pub IsInOrderOf : {X : Type 0} → List X → List X → Type 0
IsInOrderOf [] ys = Unit {0}
IsInOrderOf (x ∷ xs) [] = ⊥
IsInOrderOf (x ∷ xs) (y ∷ ys) = ((x ≡ y) × IsInOrderOf xs (y ∷ ys)) ⊎ IsInOrderOf (x ∷ xs) ys

-- the piece of a picture on a square, if it is known
abbrev pub shown : ℕ → Option (List Piece) → List Piece
shown square picture = option_to_list (option_map (λ pieces. piece_on pieces square) picture)

-- the pieces that the host shows on a square, at first and after each of these moves
abbrev pub shown_on : ℕ → MachineState → List Move → List Piece
shown_on square x [] = shown square x.picture
shown_on square x (move ∷ moves) =
    shown square x.picture ++ shown_on square (after_move x move) moves

-- the pieces on that square of the board, at first and after each of these moves
abbrev pub stood_on : ℕ → MachineState → List Move → List Piece
stood_on square x [] = piece_on x.board.squares square ∷ []
stood_on square x (move ∷ moves) =
    piece_on x.board.squares square ∷ stood_on square (after_move x move) moves

-- ---- of worlds

-- acts in order, each with its outcome, and the worlds through which they lead: the first, and that
-- after each act
abbrev pub RunsThrough : List ActContent → WorldView → List Outcome → List WorldView → Type 0
RunsThrough [] world [] worlds = worlds ≡ world ∷ []
RunsThrough (act ∷ acts) world (answer ∷ answers) worlds =
    (between : WorldView) × (later : List WorldView) × Step act world answer between
    × RunsThrough acts between answers later × (worlds ≡ world ∷ later)
RunsThrough _ world _ worlds = ⊥

-- the pieces that the hosts of these worlds show on a square, when they know a picture
abbrev pub shown_in : ℕ → List WorldView → List Piece
shown_in square worlds = flat_map (λ world. shown square world.host.picture) worlds

-- the pieces on that square of their boards
abbrev pub stood_in : ℕ → List WorldView → List Piece
stood_in square worlds = map (λ world. piece_on world.board.state.squares square) worlds
