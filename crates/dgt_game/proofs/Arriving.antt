-- On how many squares men arrive in a half-move, and in a line.
use Rattle.std.{proofs.{Common.{rules, ◌≡◌, ◌∙◌, ℕ, ◌<◌, ◌≤◌, List, [], ◌∷◌, arith, inl, inr, length, refl, subst, sym}, lemmas.Bool.{cases_eq}}, specs.Prelude.{◌≢◌, ◌⊎◌, ◌+◌, ◌/◌, Bool, true, false}}
use Rattle.{std.specs.Prelude.{not, ◌&&◌, nat_eq, if◌then◌else◌, slice_set, Option, Some, None}, dgt_values.{proofs.PieceCodes.{same_code}, specs.declared.pieces.Piece.{Piece, TheVariants.{Empty}}}}
use Rattle.{dgt_values.specs.Board.{piece_code}, dgt_chess.specs.declared.{state.{Move.{Move}, State.{State}}, pieces.{Colour.{Colour}, Man.{Man, TheVariants.{Pawn, Knight, Bishop, Rook, Queen}}}}}
use Rattle.dgt_chess.{specs.{declared.pieces.Man.TheVariants.{King}, Attacks.{other, piece_at, piece_of}, Rules.{Promotes, board, moved, pieces_after}}, proofs.OneMove.{put}}
use Rattle.dgt_game.{proofs.Counting.{none, one_if, set_one, triangle}, specs.{Reach.{arrivals, counts, has_arrived}, Lines.{IsLine, IsMove, LeadsTo, NoLine}}}

stays : (colour : Colour) (piece : Piece) → has_arrived colour piece piece ≡ false
stays colour piece = grind arith

part : (s t : Bool) → one_if (s && t) ≤ one_if t
part s t = search rules

arrives_at_most : (colour : Colour) (old new : Piece)
    → one_if (has_arrived colour old new) ≤ one_if (counts colour new)
arrives_at_most colour old new =
    part (not (nat_eq (piece_code old) (piece_code new))) (counts colour new)

comes : (a b : ℕ) (test : Bool) → a ≢ b → (not (nat_eq a b) && test) ≡ test
comes a b test differ = grind arith

-- what has arrived by two steps has arrived by one of them
by_steps : (colour : Colour) (a b c : Piece) → one_if (has_arrived colour a c)
    ≤ one_if (has_arrived colour a b) + one_if (has_arrived colour b c)
by_steps colour a b c = elim (cases_eq (piece_code b) (piece_code c)) [
  | inl same ↦ let P : Piece → Type 0 = λ p. one_if (has_arrived colour a p)
      ≤ one_if (has_arrived colour a b) + one_if (has_arrived colour b p) in
      subst P (same_code b c same) (omega arith)
  | inr differ ↦
      search (rules, comes, arrives_at_most)
]

none_arrives : (colour : Colour) (pieces : List Piece) → arrivals colour pieces pieces ≡ 0
none_arrives colour pieces = none (has_arrived colour) (stays colour) pieces

arrives_on : (colour : Colour) (old new : List Piece) (at : ℕ) (piece : Piece)
    → arrivals colour old (slice_set new at piece)
    ≤ arrivals colour old new + one_if (counts colour piece)
arrives_on colour old new at piece = omega (
  arith,
  set_one (has_arrived colour) old new at piece,
  arrives_at_most colour (piece_at old at) piece,
)

steps : (colour : Colour) (a b c : List Piece) → length a ≡ length b
    → arrivals colour a c ≤ arrivals colour a b + arrivals colour b c
steps colour = triangle (has_arrived colour) (by_steps colour)

-- ---- a half-move

free_counts : (colour : Colour) → one_if (counts colour Empty) ≡ 0
free_counts colour = search rules

moved_one : (colour : Colour) (man : Man) (old : List Piece) (turn : Colour) (a b : ℕ)
    (promotion : Option Man) → arrivals colour old (moved man old turn a b promotion)
    ≤ one_if (counts colour (piece_of turn (put man promotion)))
moved_one colour man old turn a b promotion =
    let piece = piece_of turn (put man promotion) in
    search (rules, arrives_on, none_arrives)

-- a colour of whose men at most this many are counted if one is put on a square
record Puts (colour turn : Colour) (most : ℕ) : Type 0 where
  pub men : (man : Man) → one_if (counts colour (piece_of turn man)) ≤ most
  pub king : one_if (counts colour (piece_of turn King)) ≡ 0

pawn_one : (colour turn : Colour) (most : ℕ) (test : Bool) (old : List Piece) (a b c : ℕ)
    (promotion : Option Man) → Puts colour turn most → arrivals colour old
    (if test then slice_set (moved Pawn old turn a b promotion) c Empty
    else moved Pawn old turn a b promotion) ≤ most
pawn_one colour turn most test old a b c promotion puts = search (rules, arrives_on, moved_one)

king_one : (colour turn : Colour) (most : ℕ) (test : Bool) (old : List Piece) (a b c d : ℕ)
    → Puts colour turn most → arrivals colour old
    (if test then slice_set (slice_set (moved King old turn a b None) c Empty)
    d (piece_of turn Rook)
    else moved King old turn a b None) ≤ most
king_one colour turn most true old a b c d puts = search (rules, arrives_on, moved_one, free_counts)
king_one colour turn most false old a b c d puts =
    omega (arith, moved_one colour King old turn a b None, puts.king)

after_one : (colour : Colour) (most : ℕ) (man : Man) (state : State) (a b : ℕ)
    (promotion : Option Man) → Puts colour state.turn most → Promotes man state b promotion
    → arrivals colour (board state) (pieces_after man (board state) state.turn a b promotion) ≤ most
after_one colour most Pawn state a b promotion puts promotes = search (rules, pawn_one)
after_one colour most King state a b None puts promotes = search (rules, king_one)
after_one colour most King state a b (Some new) puts promotes =
    let no : King ≡ Pawn = (promotes.0.0 refl).0 in absurd (cc)
after_one colour most Knight state a b promotion puts promotes = search (rules, moved_one)
after_one colour most Bishop state a b promotion puts promotes = search (rules, moved_one)
after_one colour most Rook state a b promotion puts promotes = search (rules, moved_one)
after_one colour most Queen state a b promotion puts promotes = search (rules, moved_one)

own_puts : (turn : Colour) → Puts turn turn 1
own_puts turn = search rules

their_puts : (turn : Colour) → Puts (other turn) turn 0
their_puts turn = search rules

move_one : (colour : Colour) (most : ℕ) (state : State) (one : Move) (next : State)
    → Puts colour state.turn most → IsMove state one next
    → arrivals colour (board state) (board next) ≤ most
unfolding IsMove
move_one colour most state one next puts (man, legal, after) =
    rw after.pieces (search (rules, after_one))

-- ---- a line

next_turn : (state : State) (one : Move) (next : State) → IsMove state one next
    → next.turn ≡ other state.turn
unfolding IsMove
next_turn state one next (man, legal, after) = after.turn

line_arrivals : (state : State) (moves : List Move) (new : State) → IsLine state moves new
    → (arrivals state.turn (board state) (board new) ≤ (length moves + 1) / 2)
    × (arrivals (other state.turn) (board state) (board new) ≤ length moves / 2)
line_arrivals state [] new same = search (rules, none_arrives)
line_arrivals state (one ∷ moves) new (next, move, line) =
    let own = move_one state.turn 1 state one next (own_puts state.turn) move in
    let their = move_one (other state.turn) 0 state one next (their_puts state.turn) move in
    let long : length (board state) ≡ length (board next) =
    state.position.all ∙ sym next.position.all in
    let turn = next_turn state one next move in
    let rest = line_arrivals next moves new line in
    search (rules, steps)

-- too many have arrived for this many half-moves
pub too_far : (state : State) (pieces : List Piece) (halves : ℕ)
    → ((halves + 1) / 2 < arrivals state.turn (board state) pieces)
    ⊎ (halves / 2 < arrivals (other state.turn) (board state) pieces) → NoLine halves state pieces
unfolding NoLine LeadsTo
too_far state pieces halves far moves long (new, line, same) = search (rules, line_arrivals)
