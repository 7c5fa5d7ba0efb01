-- The half-move that leads to a picture.
use Rattle.{std.{proofs.Common.{rules, ◌≡◌, ◌∙◌, ℕ, ◌<◌, List, [], ◌∷◌, ap, arith, length, refl, sym}, specs.Prelude.{Option}}, dgt_values.specs.{declared.pieces.Piece.{Piece}, Board.{square_number}}}
use Rattle.dgt_chess.{specs.{declared.{pieces.Man.{Man}, state.{Move.{Move}, State.{State}}}, Rules.{IsAfter, Legal, LegalBy, Reaches, board, OneMoveAPicture}}, proofs.Same.{same_move}}
use Rattle.{dgt_chess.proofs.Unique.{same_man}, dgt_game.specs.Lines.{IsMove, IsOnly, LeadsTo, NoLine}}

reaches : (state : State) (one : Move) (new : State) (pieces : List Piece) → IsMove state one new
    → board new ≡ pieces
    → Reaches state pieces (square_number one.from) (square_number one.to) one.promotion
unfolding IsMove Reaches
reaches state one new pieces (man, legal, after) same = (man, legal, sym after.pieces ∙ same)

-- a legal move that leads to the picture is legal, and the state after it has its pieces
pub is_legal : (state : State) (pieces : List Piece) (from to : ℕ) (promotion : Option Man)
    → Reaches state pieces from to promotion → Legal state from to promotion
unfolding Reaches
is_legal state pieces from to promotion (man, legal, same) = (man, legal)

pub arrives : (state new : State) (pieces : List Piece) (one : Move) (man : Man)
    → LegalBy man state (square_number one.from) (square_number one.to) one.promotion
    → IsAfter man state (square_number one.from) (square_number one.to) one.promotion new
    → Reaches state pieces (square_number one.from) (square_number one.to) one.promotion
    → IsMove state one new × (board new ≡ pieces)
unfolding IsMove Reaches
arrives state new pieces one man legal after (man', legal', same) =
    let men : man' ≡ man = same_man state.turn man' man (sym legal'.own ∙ legal.own) in
    search rules

pub is_move : (state : State) (one : Move) (new : State) (man : Man)
    → LegalBy man state (square_number one.from) (square_number one.to) one.promotion
    → IsAfter man state (square_number one.from) (square_number one.to) one.promotion new
    → IsMove state one new
unfolding IsMove
is_move state one new man legal after = (man, legal, after)

pub made_by : (state : State) (one : Move) (new : State) → IsMove state one new
    → Legal state (square_number one.from) (square_number one.to) one.promotion
unfolding IsMove
made_by state one new (man, legal, after) = (man, legal)

-- a line of one half-move that leads to the pieces
single : (state : State) (moves : List Move) (pieces : List Piece) → length moves ≡ 1
    → LeadsTo state moves pieces → (one : Move) × (moves ≡ one ∷ [])
    × Reaches state pieces (square_number one.from) (square_number one.to) one.promotion
unfolding LeadsTo
single state [] pieces e leads = absurd (omega (arith, e))
single state (one ∷ []) pieces e (new, (next, moves, same), board_same) =
    (one, refl, reaches state one next pieces moves (rw same board_same))
single state (one ∷ other ∷ moves) pieces e leads = absurd (omega (arith, e))

pub none : (state : State) (pieces : List Piece)
    → ((from to : ℕ) (promotion : Option Man) → from < 64 → to < 64
    → ¬ (Reaches state pieces from to promotion)) → NoLine 1 state pieces
unfolding NoLine
none state pieces h moves e leads = search (rules, single)

pub only : OneMoveAPicture → (state : State) (pieces : List Piece) (one : Move)
    → Reaches state pieces (square_number one.from) (square_number one.to) one.promotion
    → IsOnly state (one ∷ []) pieces
unfolding IsOnly
only picture state pieces one reach others e leads =
    let s = single state others pieces e leads in
    let same = picture state pieces (square_number s.0.from) (square_number s.0.to)
    (square_number one.from) (square_number one.to) s.0.promotion one.promotion
    s.0.from.small s.0.to.small one.from.small one.to.small s.2 reach in
    s.1 ∙ ap (λ (m : Move). m ∷ []) (same_move s.0 one same.0 same.1 same.2)
