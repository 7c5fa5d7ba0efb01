-- A man whose square may be empty without a check may make all its moves.
use Rattle.std.proofs.{lemmas.{Bool.{cases_eq}, List.{get_or-set_same, get_or-set_other}}, Math.ListN.{length-set}, Common.{subst, ◌≡◌, ℕ, ◌<◌, ◌∙◌, sym, ap, refl, arith, List, length, inl, inr}}
use Rattle.{std.{proofs.Common.{Bool, true, rules}, specs.Prelude.{◌≢◌, Option, Some, None, slice_set, if◌then◌else◌, ◌&&◌, not, nat_eq}}, dgt_values.specs.declared.pieces.Piece.{Piece}}
use Rattle.{dgt_values.specs.declared.pieces.Piece.TheVariants.{Empty}, dgt_chess.specs.declared.{state.State.{State}, pieces.{Colour.{Colour}, Man.{Man, TheVariants.{Pawn}}}}}
use Rattle.dgt_chess.specs.{declared.pieces.Man.TheVariants.{Knight, Bishop, Rook, Queen, King}, Attacks.{piece_at, piece_of, file, row, Attacks, IsAttacked, IsFree, IsInCheck}}
use Rattle.dgt_chess.specs.{Rules.{board, passed, is_free, last_row, moved, pieces_after, CanGo, Moves, Promotes}, declared.listing.Mover.{Mover}, Steps.{IsLoose}}
use Rattle.dgt_chess.{specs.Steps.{IsMover}, proofs.{Unique.{not_free, not_theirs}, OneMove.{moved_is, put}, Staying.{was_king}}}

-- ---- attacks with fewer men on the board

-- a check remains if a man of the king's side, and no king, goes from the board
covered : (old : List Piece) (turn : Colour) (b : ℕ) (man : Man) → man ≢ King → b < length old
    → IsInCheck (slice_set old b (piece_of turn man)) turn → IsInCheck old turn
unfolding IsAttacked
covered old turn b man no_king within check =
    let new = slice_set old b (piece_of turn man) in
    let here : piece_at new b ≡ piece_of turn man =
    get_or-set_same old b (piece_of turn man) Empty within in
    let stays : (s : ℕ) → s ≢ b → piece_at new s ≡ piece_at old s = λ s apart.
    get_or-set_other old b s (piece_of turn man) Empty apart in
    let king = check.0 in
    let by = check.3 in
    let king_apart : king ≢ b = search rules in
    let by_apart : by.0 ≢ b = λ e.
    not_theirs turn man by.2.0 (sym here ∙ ap (piece_at new) (sym e) ∙ by.2.1) in
    let free : (s : ℕ) → IsFree new s → IsFree old s = λ s empty. sym (stays s
    (λ e. not_free turn man (sym here ∙ ap (piece_at new) (sym e) ∙ empty))) ∙ empty in
    search rules

-- ---- moves

-- a move that only takes the man from one square to another
legal : (state : State) (man : Man) (a b : ℕ) (promotion : Option Man) → b < 64
    → piece_at (board state) a ≡ piece_of state.turn man → man ≢ King → Moves man state a b
    → Promotes man state b promotion → pieces_after man (board state) state.turn a b promotion
    ≡ moved man (board state) state.turn a b promotion
    → ¬ (IsInCheck (slice_set (board state) a Empty) state.turn) → CanGo state a b
unfolding CanGo
legal state man a b promotion small own no_king moves promotes plain safe = (
  promotion,
  (
    man,
    record {
      own = own;
      moves = moves;
      promotes = promotes;
      safe = λ check.
          let C : List Piece → Type 0 = λ pieces. IsInCheck pieces state.turn in
          let within : b < length (slice_set (board state) a Empty) =
          omega (arith, length-set {A = Piece}, state.position.all) in
          safe (covered (slice_set (board state) a Empty) state.turn b (put man promotion)
          (λ king. no_king (was_king state man b promotion promotes king)) within
          (subst C (plain ∙ moved_is man (board state) state.turn a b promotion) check));
    },
  ),
)

steps : (t : Bool) (one two : List Piece) → (t ≡ true → ⊥) → (if t then one else two) ≡ two
steps t one two never = search rules

-- a pawn that changes its file attacks the square to which it goes
pub loose_pawn : (state : State) (a : ℕ) → piece_at (board state) a ≡ piece_of state.turn Pawn
    → ((b : ℕ) → passed state ≡ Some b → ¬ (Attacks Pawn state.turn (board state) a b))
    → ¬ (IsInCheck (slice_set (board state) a Empty) state.turn) → IsLoose Pawn state a
loose_pawn state a own no_passed safe b small moves =
    let t = is_free (piece_at (board state) b) && not (nat_eq (file a) (file b)) in
    let plain : (promotion : Option Man) → pieces_after Pawn (board state) state.turn a b promotion
    ≡ moved Pawn (board state) state.turn a b promotion = λ promotion.
    steps t _ _ (search rules) in
    let no_king : Pawn ≢ King = λ e. cc in
    elim (cases_eq (row b) (last_row state.turn)) [
      | inl last ↦ legal state Pawn a b (Some Queen) small own no_king moves
          ((λ _. (refl, last), λ _. cc), λ e. cc, λ e. cc) (plain (Some Queen)) safe
      | inr before ↦ legal state Pawn a b None small own no_king moves
          ((λ some. cc, λ due. absurd (before due.1)), λ e. cc, λ e. cc) (plain None) safe
    ]

officer : (state : State) (man : Man) (b : ℕ) → man ≢ Pawn → Promotes man state b None
officer state man b no_pawn = ((λ some. cc, λ due. absurd (no_pawn due.0)), λ e. cc, λ e. cc)

pub loose_officer : (state : State) (man : Man) (a : ℕ)
    → piece_at (board state) a ≡ piece_of state.turn man → man ≢ Pawn → man ≢ King
    → ¬ (IsInCheck (slice_set (board state) a Empty) state.turn) → IsLoose man state a
loose_officer state Pawn a own no_pawn no_king safe b small moves = absurd (no_pawn refl)
loose_officer state Knight a own no_pawn no_king safe b small moves =
    legal state Knight a b None small own no_king moves (officer state Knight b no_pawn) refl safe
loose_officer state Bishop a own no_pawn no_king safe b small moves =
    legal state Bishop a b None small own no_king moves (officer state Bishop b no_pawn) refl safe
loose_officer state Rook a own no_pawn no_king safe b small moves =
    legal state Rook a b None small own no_king moves (officer state Rook b no_pawn) refl safe
loose_officer state Queen a own no_pawn no_king safe b small moves =
    legal state Queen a b None small own no_king moves (officer state Queen b no_pawn) refl safe
loose_officer state King a own no_pawn no_king safe b small moves = absurd (no_king refl)

-- the man on the square makes each move from there
pub moves_by : (state : State) (mover : Mover) (b : ℕ) → IsMover state mover
    → CanGo state mover.from b → Moves mover.man state mover.from b
unfolding CanGo
moves_by state mover b is go = search rules
