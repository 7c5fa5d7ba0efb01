-- A half-move while one piece is gone.
use Rattle.std.proofs.Common.{rules, ◌≡◌, ◌∙◌, ◌↔◌, ◌<◌, ◌+◌, ap, arith, inl, inr, length, refl, sym, subst, ℕ, List, [], ◌∷◌, Option, Some, None}
use Rattle.std.proofs.lemmas.List.{get_or-set_same, get_or-set_other, set-get_or, set-set}
use Rattle.std.{specs.{Prelude.{◌≢◌, ◌⊎◌, MatchOption, IsSome, slice_set}, Option.{option_or}}}
use Rattle.{dgt_values.specs.declared.pieces.Piece.{Piece}, dgt_chess.specs.{declared.{pieces.Man.{Man}, state.{Move.{Move}, State.{State}}}, Attacks.{other, piece_at, piece_of}, Rules.{board}}}
use Rattle.dgt_game.specs.{Lines.{IsMove, IsOnly, LeadsTo, NoLine}, Missing.{CanBeGone, IsMissing, IsOneGone, LiftedIsNotGone, MovesWithout, TheirsIsOnlyGone}, Told.{IsHeld, LacksOne, as_shown}}
use Rattle.{std.proofs.lemmas.Bool.{cases_eq, false≢true}, dgt_chess.specs.declared.pieces.Colour.{Colour}, dgt_game.{specs.Results.{IsKing}, proofs.Leaving.{effect, stays_put}}}
use Rattle.{dgt_values.specs.Board.{pieces_of, square_number}, dgt_chess.proofs.Unique.{not_free}}
use Rattle.dgt_game.specs.declared.{node.{Place.{Place}, Step.{Step}, Way.{Way}}, view.View.{View}}

on_board : (state : State) (square : ℕ) → square < 64 → square < length (board state)
on_board state square small = subst (λ n. square < n) (sym state.position.all) small

-- a piece that is put back
pub with_one : (state new : State) (one : Move) (picture : List Piece) (square : ℕ) → square < 64
    → length picture ≡ 64 → IsMissing picture state square → IsMove state one new
    → board new ≡ slice_set picture square (piece_at (board state) square)
    → MovesWithout state one new picture square
with_one state new one picture square small long (free, some, king) move same =
    let piece = piece_at (board state) square in
    let back : piece_at (board new) square ≡ piece =
    ap (λ (b : List Piece). piece_at b square) same
    ∙ get_or-set_same picture square piece Piece.Empty (subst (λ n. square < n) (sym long) small) in
    let again : slice_set picture square Piece.Empty ≡ picture =
    ap (slice_set picture square) (sym free) ∙ set-get_or picture square Piece.Empty in
    let less : slice_set (board new) square Piece.Empty ≡ picture =
    ap (λ (b : List Piece). slice_set b square Piece.Empty) same
    ∙ set-set picture square piece Piece.Empty ∙ again in
    let stays : LacksOne picture new square =
    (small, (λ e. some (sym back ∙ e)), (λ k. king (subst IsKing back k)), sym less) in
    (move, stays, sym back)

-- a piece that can be gone is missing
pub missing : (state : State) (picture : List Piece) (square : ℕ) → CanBeGone state picture square
    → IsMissing picture state square
missing state picture square (one, (new, (move, (small, some, king, less), same))) = (
  ap (λ (p : List Piece). piece_at p square) less
      ∙ get_or-set_same (board new) square Piece.Empty Piece.Empty (on_board new square small),
  (λ e. some (sym same ∙ e)),
  (λ k. king (subst IsKing same k)),
)

pub leads_whole : (state : State) (picture whole : List Piece) (square : ℕ)
    → whole ≡ slice_set picture square (piece_at (board state) square)
    → NoLine 1 state whole → ¬ (CanBeGone state picture square)
unfolding NoLine LeadsTo
leads_whole state picture whole square put none (one, (new, (move, lacks, same))) =
    let less = lacks.3 in
    let back : board new ≡ whole =
    sym (put ∙ ap (λ (p : List Piece). slice_set p square (piece_at (board state) square)) less
    ∙ set-set (board new) square Piece.Empty (piece_at (board state) square)
    ∙ ap (slice_set (board new) square) same ∙ set-get_or (board new) square Piece.Empty) in
    none (one ∷ []) refl (new, (new, move, refl), back)

below : (state : State) (picture : List Piece) (square : ℕ) → CanBeGone state picture square
    → square < 64
below state picture square (one, (new, (move, (small, some, king, less), same))) = small

pub others_stand : (picture : List Piece) (state : State) (square k : ℕ)
    → LacksOne picture state square → k ≢ square
    → piece_at picture k ≡ piece_at (board state) k
others_stand picture state square k (small, some, king, less) other =
    ap (λ (p : List Piece). piece_at p k) less
    ∙ get_or-set_other (board state) square k Piece.Empty Piece.Empty other

-- the piece of the square lacks, and no other
pub one_differs : (picture : List Piece) (state : State) (square k : ℕ)
    → LacksOne picture state square → piece_at picture k ≢ piece_at (board state) k → k ≡ square
one_differs picture state square k lacks differs = elim (cases_eq k square) [
  | inl same ↦ same
  | inr other ↦ absurd (differs (others_stand picture state square k lacks other))
]

pub gone_at : (picture : List Piece) (state : State) (square : ℕ) → LacksOne picture state square
    → piece_at picture square ≡ Piece.Empty
gone_at picture state square (small, some, king, less) =
    ap (λ (p : List Piece). piece_at p square) less
    ∙ get_or-set_same (board state) square Piece.Empty Piece.Empty (on_board state square small)

-- each square shows its piece or is empty
pub same_or_gone : (picture : List Piece) (state : State) (square k : ℕ)
    → LacksOne picture state square
    → (piece_at picture k ≡ piece_at (board state) k) ⊎ (piece_at picture k ≡ Piece.Empty)
same_or_gone picture state square k lacks = elim (cases_eq k square) [
  | inl same ↦ inr (ap (piece_at picture) same ∙ gone_at picture state square lacks)
  | inr other ↦ inl (others_stand picture state square k lacks other)
]

-- so it shows less than the state
pub not_whole : (picture : List Piece) (state : State) (square : ℕ)
    → LacksOne picture state square → picture ≢ board state
not_whole picture state square lacks whole =
    lacks.1 (sym (ap (λ (p : List Piece). piece_at p square) whole)
    ∙ gone_at picture state square lacks)

-- so the picture is read as the state after the half-move
pub reads_without : (view : View) (from step : Step) (place : Place) (one : Move) (state : State)
    (pieces : List Piece) (square : ℕ) → step ≡ record {
      state = state;
      is_turned = from.is_turned;
      way = Way.Made one;
      parent = place;
    } → pieces ≡ as_shown from.is_turned (pieces_of view.shown) → LacksOne pieces state square
    → IsHeld (as_shown step.is_turned (pieces_of view.shown)) step.state
    × (as_shown step.is_turned (pieces_of view.shown) ≢ board step.state)
reads_without view from step place one state pieces square e same lacks =
    rw e (rw (sym same) (inr (square, lacks), not_whole pieces state square lacks))

-- the step at a place is known
pub gone_here : (here : Option Step) (from : Step) (pieces picture : List Piece)
    → here ≡ Some from → pieces ≡ as_shown from.is_turned picture
    → ((step : Step) × (here ≡ Some step)
    × IsOneGone step.state (as_shown step.is_turned picture)) → IsOneGone from.state pieces
gone_here here from pieces picture at same (step, is, gone) =
    let one : step ≡ from = cc in
    subst (IsOneGone from.state) (sym same)
    (subst (λ (s : Step). IsOneGone s.state (as_shown s.is_turned picture)) one gone)

-- what is found below a square
abbrev pub Found : State → List Piece → ℕ → Option (Move × State) → Type 0
Found state picture at found =
    MatchOption found ((k : ℕ) → k < at → ¬ (CanBeGone state picture k)) (λ new.
    (square : ℕ) × (square < at) × MovesWithout state new.0 new.1 picture square
    × ((k : ℕ) → k < at → CanBeGone state picture k → k ≡ square))

-- what is found at a square
abbrev pub FoundAt : State → List Piece → ℕ → Option (Move × State) → Type 0
FoundAt state picture at found =
    MatchOption found (¬ (CanBeGone state picture at))
    (λ new. MovesWithout state new.0 new.1 picture at)

-- the half-move to the whole, or that there is none
pub moves_with : (state : State) (picture whole : List Piece) (square : ℕ)
    (found : Option (Move × State)) → square < 64 → length picture ≡ 64
    → IsMissing picture state square
    → whole ≡ slice_set picture square (piece_at (board state) square)
    → MatchOption found (NoLine 1 state whole)
    (λ new. IsMove state new.0 new.1 × (board new.1 ≡ whole) × IsOnly state (new.0 ∷ []) whole)
    → FoundAt state picture square found
moves_with state picture whole square None small long is put none =
    leads_whole state picture whole square put none
moves_with state picture whole square (Some (one, new)) small long is put (move, same, only) =
    with_one state new one picture square small long is move (same ∙ put)

pub found_next : (state : State) (picture : List Piece) (at : ℕ)
    (found new : Option (Move × State)) → ¬ (IsSome found × IsSome new)
    → Found state picture at found → FoundAt state picture at new
    → Found state picture (at + 1) (option_or found new)
found_next state picture at None None both old here = λ k small gone.
    elim (cases_eq k at) [
      | inl same ↦ here (subst (CanBeGone state picture) same gone)
      | inr differs ↦ old k (omega (arith, small, differs)) gone
    ]
found_next state picture at None (Some new) both old here = (
  at,
  omega arith,
  here,
  λ k small gone.
      elim (cases_eq k at) [
        | inl same ↦ same
        | inr differs ↦ absurd (old k (omega (arith, small, differs)) gone)
      ],
)
found_next state picture at (Some first) None both (square, below, moves, only) here = (
  square,
  omega (arith, below),
  moves,
  λ k small gone. elim (cases_eq k at) [
    | inl same ↦ absurd (here (subst (CanBeGone state picture) same gone))
    | inr differs ↦ only k (omega (arith, small, differs)) gone
  ],
)
found_next state picture at (Some first) (Some new) both old here = absurd (both (refl, refl))

-- two pieces can be gone
pub two_found : (state : State) (picture : List Piece) (at : ℕ) (found new : Option (Move × State))
    → IsSome found → IsSome new → Found state picture at found → FoundAt state picture at new
    → ¬ (IsOneGone state picture)
two_found state picture at None new one two old here gone = false≢true one
two_found state picture at (Some first) None one two old here gone = false≢true two
two_found state picture at (Some first) (Some new) one two old here gone =
    let only = gone.2 in
    let (square, below, moves, others) = old in
    let same = only square (first.0, (first.1, moves)) in
    let same' = only at (new.0, (new.1, here)) in
    omega (arith, below, same, same')

pub all_found : (state : State) (picture : List Piece) (found : Option (Move × State))
    → Found state picture 64 found → IsSome found ↔ IsOneGone state picture
all_found state picture None none = (
  (λ some. absurd (false≢true some)),
  (λ gone. absurd (none gone.0 (below state picture gone.0 gone.1) gone.1)),
)
all_found state picture (Some (one, new)) (square, small, moves, only) = (
  (λ some. (square, (one, (new, moves)), λ k can. only k (below state picture k can) can)),
  (λ gone. refl),
)

-- ---- Laws

turn_back : (turn : Colour) → turn ≡ other (other turn)
turn_back turn = search rules

-- a half-move empties the square of no man of the other side, but of a pawn
theirs_stays : (state : State) (picture : List Piece) (square k : ℕ) (man : Man)
    → piece_at (board state) square ≡ piece_of (other state.turn) man → man ≢ Man.Pawn
    → piece_at picture square ≡ Piece.Empty → k ≢ square → ¬ (CanBeGone state picture k)
theirs_stays state picture square k man theirs pawn gone differs can =
    let (one, (last, (move, lacks, same))) = can in
    let made = effect state one last move in
    let free : piece_at (board last) square ≡ Piece.Empty =
    sym (others_stand picture last k square lacks (λ e. differs (sym e))) ∙ gone in
    pawn (stays_put (board state) (board last) state.turn (other state.turn) _ _ square
    made.0 man (turn_back state.turn) made.2 theirs free)

pub theirs_is_only : TheirsIsOnlyGone
theirs_is_only state picture square man theirs pawn can = (
  square,
  can,
  λ k can'. elim (cases_eq k square) [
    | inl is ↦ is
    | inr differs ↦ absurd (theirs_stays state picture square k man theirs pawn
        (missing state picture square can).0 differs can')
  ],
)

-- with the only piece back that is lifted, nothing has moved
pub lifted_not_gone : LiftedIsNotGone
lifted_not_gone state from square within (one, (new, (move, lacks, same))) =
    let lifted = slice_set (board state) from Piece.Empty in
    let some : piece_at (board state) square ≢ Piece.Empty = λ e. lacks.1 (sym same ∙ e) in
    let is : square ≡ from = elim (cases_eq square from) [
      | inl is ↦ is
      | inr other ↦ absurd (some (sym (get_or-set_other (board state) from square Piece.Empty
          Piece.Empty other) ∙ gone_at lifted new square lacks))
    ] in
    let back : board new ≡ board state =
    sym (set-get_or (board new) square Piece.Empty)
    ∙ sym (set-set (board new) square Piece.Empty (piece_at (board new) square))
    ∙ ap (λ (p : List Piece). slice_set p square (piece_at (board new) square)) (sym lacks.3)
    ∙ ap (slice_set lifted square) (sym same)
    ∙ ap (λ n. slice_set lifted n (piece_at (board state) n)) is
    ∙ set-set (board state) from Piece.Empty (piece_at (board state) from)
    ∙ set-get_or (board state) from Piece.Empty in
    let made = (effect state one new move).2 in
    not_free state.turn made.begins.0 (sym made.begins.1
    ∙ sym (ap (λ (p : List Piece). piece_at p (square_number one.from)) back) ∙ made.vacated)
