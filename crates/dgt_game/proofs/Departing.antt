-- How many men leave their squares in a half-move, and in a line.
use Rattle.std.{proofs.{Common.{rules, ◌≡◌, ◌∙◌, ℕ, ◌<◌, ◌≤◌, List, [], ◌∷◌, ap, arith, length, refl, subst, sym}, Math.Logic.{∥∥₁_elim}}, specs.Prelude.{◌≢◌, ◌+◌, Bool, true, false, not, ◌&&◌}}
use Rattle.{std.specs.{Prelude.{nat_eq, if◌then◌else◌, slice_set, Option, Some, None}, Int.{abs_diff}}, dgt_values.specs.{declared.pieces.Piece.{Piece, TheVariants.{Empty}}, Board.{square_number}}}
use Rattle.dgt_chess.specs.{declared.{state.{Move.{Move}, State.{State}}, pieces.{Colour.{Colour}, Man.{Man, TheVariants.{Pawn, Knight, Bishop, Rook, Queen, King}}}}, Possible.{HasNoStray}}
use Rattle.dgt_chess.specs.{Attacks.{file, piece_at, piece_of, row}, Rules.{LegalBy, Moves, PawnMoves, Promotes, TakesPassing, beside, board, first_row, is_free, moved, passed, pieces_after}}
use Rattle.{dgt_chess.proofs.{OneMove.{castles, far, pawn_passes, put, rook_from, rook_to, Castled}, Unique.{same_man}}, dgt_game.specs.{declared.reach.Kind.{Kind}, Reach.{departures, has_left}}}
use Rattle.dgt_game.{specs.{Reach.{is_of, IsBack}, Lines.{IsLine, IsMove, LeadsTo, NoLine}}, proofs.{Counting.{none, one_if, set_one, triangle}, Leaving.{effect}}}

-- ---- on two boards

by_steps : (a b c : Bool) → one_if (a && not c) ≤ one_if (a && not b) + one_if (b && not c)
by_steps a b c = search rules

stays : (test : Bool) → (test && not test) ≡ false
stays test = search rules

none_leaves : (kind : Kind) (pieces : List Piece) → departures kind pieces pieces ≡ 0
none_leaves kind pieces = none (has_left kind) (λ piece. stays (is_of kind piece)) pieces

-- ---- a half-move

left_at_most : (kind : Kind) (piece new : Piece)
    → one_if (has_left kind piece new) ≤ one_if (is_of kind piece)
left_at_most kind piece new = search rules

moved_one : (kind : Kind) (man : Man) (old : List Piece) (turn : Colour) (a b : ℕ)
    (promotion : Option Man) → departures kind old (moved man old turn a b promotion)
    ≤ one_if (is_of kind (piece_at old a))
    + one_if (has_left kind (piece_at old b) (piece_of turn (put man promotion)))
moved_one kind man old turn a b promotion = search (rules, set_one, none_leaves)

plain_one : (kind : Kind) (state : State) (man : Man) (a b : ℕ) (promotion : Option Man)
    → piece_at (board state) a ≡ piece_of state.turn man → Promotes man state b promotion
    → departures kind (board state) (moved man (board state) state.turn a b promotion) ≤ 1
plain_one kind state man a b promotion own promotes = search (rules, moved_one)

king_and_rook : (kind : Kind) (turn : Colour)
    → one_if (is_of kind (piece_of turn King)) + one_if (is_of kind (piece_of turn Rook)) ≤ 1
king_and_rook kind turn = search rules

was_free : (kind : Kind) (piece new : Piece) → piece ≡ Empty → one_if (has_left kind piece new) ≡ 0
was_free kind piece new e = search rules

pawn_one : (kind : Kind) (state : State) (a b : ℕ) (promotion : Option Man) (t : Bool)
    → piece_at (board state) a ≡ piece_of state.turn Pawn → Promotes Pawn state b promotion
    → (t ≡ true → TakesPassing (board state) state.turn (passed state) a b)
    → departures kind (board state)
    (if t then slice_set (moved Pawn (board state) state.turn a b promotion) (beside a b) Empty
    else moved Pawn (board state) state.turn a b promotion) ≤ 1
pawn_one kind state a b promotion true own promotes takes = search (rules, set_one, moved_one)
pawn_one kind state a b promotion false own promotes takes =
    plain_one kind state Pawn a b promotion own promotes

king_one : (kind : Kind) (state : State) (a b : ℕ) (t : Bool)
    → piece_at (board state) a ≡ piece_of state.turn King
    → (t ≡ true → Castled (board state) state.turn a b) → Promotes King state b None
    → departures kind (board state)
    (if t then slice_set (slice_set (moved King (board state) state.turn a b None)
    (rook_from a b) Empty) (rook_to a b) (piece_of state.turn Rook)
    else moved King (board state) state.turn a b None) ≤ 1
king_one kind state a b true own castled promotes =
    let old = board state in
    let after = moved King old state.turn a b None in
    let facts = castled refl in
    let rook = piece_of state.turn Rook in
    let P : Piece → Piece → Type 0 = λ p q. one_if (is_of kind p) + one_if (is_of kind q) ≤ 1 in
    let most : P (piece_at old a) (piece_at old (rook_from a b)) =
    rw facts.rook (rw own (king_and_rook kind state.turn)) in
    omega (
      arith,
      most,
      set_one (has_left kind) old (slice_set after (rook_from a b) Empty) (rook_to a b) rook,
      set_one (has_left kind) old after (rook_from a b) Empty,
      moved_one kind King old state.turn a b None,
      was_free kind (piece_at old b) (piece_of state.turn King) facts.arrives,
      was_free kind (piece_at old (rook_to a b)) rook facts.vacant,
      left_at_most kind (piece_at old (rook_from a b)) Empty,
    )
king_one kind state a b false own castled promotes = plain_one kind state King a b None own promotes

castled_by : (state : State) (a b : ℕ) → Moves King state a b
    → nat_eq (abs_diff (file a) (file b)) 2 ≡ true → Castled (board state) state.turn a b
castled_by state a b moves t = search (rules, castles)

after_one : (kind : Kind) (man : Man) (state : State) (a b : ℕ) (promotion : Option Man)
    → LegalBy man state a b promotion → departures kind (board state)
    (pieces_after man (board state) state.turn a b promotion) ≤ 1
after_one kind Pawn state a b promotion legal =
    pawn_one kind state a b promotion
    (is_free (piece_at (board state) b) && not (nat_eq (file a) (file b))) legal.own legal.promotes
    (pawn_passes state a b legal.moves)
after_one kind King state a b None legal =
    king_one kind state a b (nat_eq (abs_diff (file a) (file b)) 2) legal.own
    (castled_by state a b legal.moves) legal.promotes
after_one kind King state a b (Some new) legal =
    let no : King ≡ Pawn = (legal.promotes.0.0 refl).0 in absurd (cc)
after_one kind Knight state a b promotion legal =
    plain_one kind state Knight a b promotion legal.own legal.promotes
after_one kind Bishop state a b promotion legal =
    plain_one kind state Bishop a b promotion legal.own legal.promotes
after_one kind Rook state a b promotion legal =
    plain_one kind state Rook a b promotion legal.own legal.promotes
after_one kind Queen state a b promotion legal =
    plain_one kind state Queen a b promotion legal.own legal.promotes

move_one : (kind : Kind) (state : State) (one : Move) (next : State) → IsMove state one next
    → departures kind (board state) (board next) ≤ 1
unfolding IsMove
move_one kind state one next (man, legal, after) =
    rw after.pieces (after_one kind man state (square_number one.from)
    (square_number one.to) one.promotion legal)

-- ---- a line

line_one : (kind : Kind) (state : State) (moves : List Move) (new : State) → IsLine state moves new
    → departures kind (board state) (board new) ≤ length moves
line_one kind state [] new same = search (rules, none_leaves)
line_one kind state (one ∷ moves) new (next, move, line) =
    let long : length (board state) ≡ length (board next) =
    state.position.all ∙ sym next.position.all in
    omega (
      arith,
      triangle (has_left kind) (λ x y z. by_steps (is_of kind x) (is_of kind y) (is_of kind z))
          (board state) (board next) (board new) long,
      move_one kind state one next move,
      line_one kind next moves new line,
    )

-- too many have left their squares for this many half-moves
pub left : (state : State) (pieces : List Piece) (halves : ℕ) (kind : Kind)
    → halves < departures kind (board state) pieces → NoLine halves state pieces
unfolding NoLine LeadsTo
left state pieces halves kind far moves long (new, line, same) =
    let most = line_one kind state moves new line in
    let P : List Piece → Type 0 = λ ps. departures kind (board state) ps ≤ length moves in
    let most' : P pieces = subst P same most in
    absurd (omega arith)

-- ---- pawns on their first row

pawn_row : (state : State) (a b : ℕ) → a < 64 → HasNoStray (board state)
    → piece_at (board state) a ≡ piece_of state.turn Pawn
    → PawnMoves (board state) state.turn (passed state) a b → row b ≢ first_row state.turn
unfolding HasNoStray
pawn_row state a b small no_stray own moves here = search rules

arrives_home : (state : State) (a b : ℕ) → a < 64
    → piece_at (board state) a ≡ piece_of state.turn Pawn
    → PawnMoves (board state) state.turn (passed state) a b → row b ≢ first_row state.turn
arrives_home state a b small own moves here =
    ∥∥₁_elim state.possible (λ x y. absurd x)
    (λ possible. pawn_row state a b small possible.pawns own moves here)

arrived : (state : State) (one : Move) (next : State) → IsMove state one next
    → piece_at (board state) (square_number one.from) ≡ piece_of state.turn Pawn
    → row (square_number one.to) ≢ first_row state.turn
unfolding IsMove
arrived state one next (man, legal, after) own here =
    let men : man ≡ Pawn = same_man state.turn man Pawn (sym legal.own ∙ own) in
    let M : Man → Type 0 = λ m.
    Moves m state (square_number one.from) (square_number one.to) in
    arrives_home state (square_number one.from) (square_number one.to) one.from.small own
    (subst M men legal.moves) here

-- a half-move puts no pawn on its first row
stays_home : (state : State) (one : Move) (next : State) (colour : Colour) (at : ℕ)
    → IsMove state one next → row at ≡ first_row colour
    → piece_at (board next) at ≡ piece_of colour Pawn
    → piece_at (board state) at ≡ piece_of colour Pawn
stays_home state one next colour at move home here = search (rules, effect, arrived)

line_home : (state : State) (moves : List Move) (new : State) (colour : Colour) (at : ℕ)
    → IsLine state moves new → row at ≡ first_row colour
    → piece_at (board new) at ≡ piece_of colour Pawn
    → piece_at (board state) at ≡ piece_of colour Pawn
line_home state [] new colour at same home here =
    ap (λ (s : State). piece_at (board s) at) same ∙ here
line_home state (one ∷ moves) new colour at (next, move, line) home here =
    stays_home state one next colour at move home
    (line_home next moves new colour at line home here)

-- no half-moves bring a pawn back to its first row
pub back : (state : State) (pieces : List Piece) (halves : ℕ) (colour : Colour)
    → IsBack colour (board state) pieces → NoLine halves state pieces
unfolding NoLine LeadsTo
back state pieces halves colour (at, home, here, before) moves long (new, line, same) =
    before (line_home state moves new colour at line home (ap (λ ps. piece_at ps at) same ∙ here))
