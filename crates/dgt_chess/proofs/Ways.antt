-- Moves by lines, and sets of squares.
use Rattle.std.{proofs.{lemmas.Nat.Bits.{and_pow, bit_at_or}, Common.{◌≡◌, ◌↔◌, ℕ, refl, List, inl, inr, rules}}, specs.{Prelude.{◌≢◌, ◌⊎◌, ◌+◌, ◌/◌, bit_or, IsBitSet, Option}, Int.{bit_at}}}
use Rattle.{dgt_values.specs.declared.pieces.Piece.{Piece}, dgt_chess.specs.declared.{lines.Line.{Line, TheVariants.{Rank, File}}, listing.Mover.{Mover}, state.State.{State}, pieces.Colour.{Colour}}}
use Rattle.dgt_chess.specs.{declared.pieces.Man.{Man, TheVariants.{Pawn, Knight, Bishop, Rook, Queen, King}}, Attacks.{file, IsAhead, IsFree, Jumps, Slides}, Rules.{board, passed, CanGo, Castles}}
use Rattle.dgt_chess.{specs.{Rules.{Moves, PawnMoves}, Steps.{IsMover}}, proofs.{Loose.{moves_by}, OneMove.{with_parts}, Rays.{sees}}}

-- ---- sets

set_of : (n k : ℕ) → bit_at n k ≡ 1 → IsBitSet n k
set_of n k one zero = search (rules, and_pow)

of_set : (n k : ℕ) → IsBitSet n k → bit_at n k ≡ 1
of_set n k set = search (rules, and_pow)

pub in_union : (m n k : ℕ) → IsBitSet (bit_or m n) k ↔ (IsBitSet m k ⊎ IsBitSet n k)
in_union m n k =
    let both = bit_at_or m n k in
    search (rules, of_set, set_of)

-- ---- lines

step_by : (pieces : List Piece) (turn : Colour) (a b : ℕ) → file a ≡ file b → IsAhead turn 1 a b
    → Slides File pieces a b
step_by pieces turn a b files ahead = search rules

double_by : (pieces : List Piece) (turn : Colour) (a b : ℕ) → file a ≡ file b
    → IsAhead turn 2 a b → IsFree pieces ((a + b) / 2) → Slides File pieces a b
double_by pieces turn a b files ahead free = search rules

pawn_by : (pieces : List Piece) (turn : Colour) (stepped : Option ℕ) (a b : ℕ)
    → PawnMoves pieces turn stepped a b → (line : Line) × Slides line pieces a b
pawn_by pieces turn stepped a b moves = elim moves [
  | inl step ↦ (File, step_by pieces turn a b step.0 step.1)
  | inr more ↦ elim more [
    | inl double ↦ (File, double_by pieces turn a b double.0 double.1 double.4)
    | inr take ↦ elim (sees Pawn turn pieces a b take.0) [
      | inl knight ↦ let wrong : ⊥ = cc in absurd wrong
      | inr on ↦ on
    ]
  ]
]

-- a king castles over a part of the way to its rook
castle_by : (state : State) (turn : Colour) (a b : ℕ) → Castles state turn a b
    → Slides Rank (board state) a b
castle_by state turn a b castles = search (rules, with_parts)

-- ---- all moves but a knight's

moves_along : (state : State) (man : Man) (a b : ℕ) → Moves man state a b
    → (man ≡ Knight) ⊎ ((line : Line) × Slides line (board state) a b)
moves_along state Pawn a b moves = inr (pawn_by (board state) state.turn (passed state) a b moves)
moves_along state Knight a b moves = inl refl
moves_along state Bishop a b moves = sees Bishop state.turn (board state) a b moves.0
moves_along state Rook a b moves = sees Rook state.turn (board state) a b moves.0
moves_along state Queen a b moves = sees Queen state.turn (board state) a b moves.0
moves_along state King a b moves = elim moves [
  | inl goes ↦ sees King state.turn (board state) a b goes.0
  | inr way ↦ inr (Rank, castle_by state state.turn a b way)
]

pub along : (state : State) (mover : Mover) (b : ℕ) → IsMover state mover → mover.man ≢ Knight
    → CanGo state mover.from b → (line : Line) × Slides line (board state) mover.from b
along state mover b is no_knight go = search (rules, moves_along, moves_by)

pub jumps : (state : State) (mover : Mover) (b : ℕ) → IsMover state mover → mover.man ≡ Knight
    → CanGo state mover.from b → Jumps mover.from b
jumps state mover b is knight go = search (rules, moves_by)
