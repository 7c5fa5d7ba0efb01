-- The promotions that are tried.
use Rattle.{std.{proofs.Common.{rules, ◌≡◌, ℕ, List, inl, inr}, specs.Prelude.{◌↔◌, ◌⊎◌, Bool, true, false, IsSome, IsTrue, Option, Some, None}}, dgt_values.specs.declared.pieces.Piece.{Piece}}
use Rattle.{dgt_values.specs.Board.{square_number}, dgt_chess.specs.declared.{pieces.Man.{Man, TheVariants.{Pawn, Knight, Bishop, Rook, Queen, King}}, state.{Move.{Move}, State.{State}}}}
use Rattle.dgt_chess.{specs.{declared.pieces.Colour.{Colour}, Attacks.{piece_at, piece_of, row}, Rules.{LegalBy, board, last_row}}}
use Rattle.dgt_game.{specs.{declared.ways.Ways.{Ways}, Lines.{IsMove}, Ways.{AreWaysBy, Ends, both}}, proofs.Sets.{promoted, same_set}}

-- whether a legal half-move between two squares promotes
abbrev pub Tells : State → ℕ → ℕ → Bool → Type 0
Tells state from to test =
    (man : Man) (promotion : Option Man) → LegalBy man state from to promotion
    → IsTrue test ↔ IsSome promotion

pub tells : (state : State) (man : Man) (from to : ℕ) (turn : Colour) (test : Bool)
    → piece_at (board state) from ≡ piece_of state.turn man → turn ≡ state.turn
    → IsTrue test ↔ ((man ≡ Pawn) × (row to ≡ last_row turn)) → Tells state from to test
tells state man from to turn test own turns is = search rules

abbrev Between : ℕ → ℕ → Move → Type 0
Between from to one = (square_number one.from ≡ from) × (square_number one.to ≡ to)

legal_at : (state : State) (from to : ℕ) (one : Move) (next : State) → IsMove state one next
    → Between from to one → (man : Man) × LegalBy man state from to one.promotion
unfolding IsMove
legal_at state from to one next (man, legal, after) (a, b) = search rules

no_promotion : (promotion : Option Man) → ¬ (IsSome promotion) → promotion ≡ None
no_promotion promotion none = search rules

pub unpromoted : (halves : ℕ) (state : State) (pieces : List Piece) (from to : ℕ) (ways : Ways)
    (test : Bool) → Tells state from to test → test ≡ false
    → AreWaysBy (Ends from to (λ p. p ≡ None)) halves state pieces ways
    → AreWaysBy (λ one. (square_number one.from ≡ from) × (square_number one.to ≡ to)) halves state
    pieces ways
unpromoted halves state pieces from to ways test tells is_false h =
    same_set (Ends from to (λ p. p ≡ None)) (Between from to) halves state pieces ways
    (λ one next move (a, b, p). (a, b))
    (λ one next move (a, b).
    let (man, legal) = legal_at state from to one next move (a, b) in (
      a,
      b,
      no_promotion one.promotion (λ some.
          let is_true : test ≡ true = (tells man one.promotion legal).1 some in cc),
    ))
    h

-- the four promotions
abbrev Four : Option Man → Type 0
Four p = (((p ≡ Some Queen) ⊎ (p ≡ Some Rook)) ⊎ (p ≡ Some Bishop)) ⊎ (p ≡ Some Knight)

one_of_four : (p : Option Man) → IsSome p → ¬ (p ≡ Some Pawn) → ¬ (p ≡ Some King) → Four p
one_of_four p some pawn king = search rules

pub four : (halves : ℕ) (state : State) (pieces : List Piece) (from to : ℕ)
    (queen rook bishop knight : Ways) (test : Bool) → Tells state from to test → test ≡ true
    → AreWaysBy (Ends from to (λ p. p ≡ Some Queen)) halves state pieces queen
    → AreWaysBy (Ends from to (λ p. p ≡ Some Rook)) halves state pieces rook
    → AreWaysBy (Ends from to (λ p. p ≡ Some Bishop)) halves state pieces bishop
    → AreWaysBy (Ends from to (λ p. p ≡ Some Knight)) halves state pieces knight
    → AreWaysBy (λ one. (square_number one.from ≡ from) × (square_number one.to ≡ to)) halves state
    pieces (both (both (both queen rook) bishop) knight)
four halves state pieces from to queen rook bishop knight test tells is_true q r b k =
    let two = promoted halves state pieces from to (λ p. p ≡ Some Queen) (Some Rook) queen rook
    (λ e. cc) q r in
    let three = promoted halves state pieces from to (λ p. (p ≡ Some Queen) ⊎ (p ≡ Some Rook))
    (Some Bishop) (both queen rook) bishop (λ e. elim e [ inl e ↦ cc | inr e ↦ cc ]) two b in
    let all = promoted halves state pieces from to
    (λ p. ((p ≡ Some Queen) ⊎ (p ≡ Some Rook)) ⊎ (p ≡ Some Bishop)) (Some Knight)
    (both (both queen rook) bishop) knight
    (λ e. elim e [ inl e ↦ elim e [ inl e ↦ cc | inr e ↦ cc ] | inr e ↦ cc ]) three k in
    same_set (Ends from to Four) (Between from to) halves state pieces
    (both (both (both queen rook) bishop) knight)
    (λ one next move (a, b, p). (a, b))
    (λ one next move (a, b).
    let (man, legal) = legal_at state from to one next move (a, b) in
    let promotes = legal.promotes in (
      a,
      b,
      one_of_four one.promotion ((tells man one.promotion legal).0 is_true) promotes.1
          promotes.2,
    ))
    all
