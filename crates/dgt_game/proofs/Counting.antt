-- Squares counted by their pieces before and after.
use Rattle.std.{proofs.Common.{rules, ◌≡◌, ℕ, ◌<◌, ◌≤◌, List, [], ◌∷◌, arith, length, refl, take}, specs.Prelude.{◌+◌, Bool, false, if◌then◌else◌, slice_set, slice_index_or, suc, zero}}
use Rattle.{dgt_values.specs.declared.pieces.Piece.{Piece, TheVariants.{Empty}}, dgt_chess.specs.Attacks.{piece_at}, dgt_game.specs.Reach.{count}}

abbrev pub one_if : Bool → ℕ
one_if test = if test then 1 else 0

module _ (test : Piece → Piece → Bool) where
  pub triangle : ((x y z : Piece) → one_if (test x z) ≤ one_if (test x y) + one_if (test y z))
      → (a b c : List Piece) → length a ≡ length b
      → count test a c ≤ count test a b + count test b c
  triangle steps [] b c e = omega arith
  triangle steps (x ∷ a) [] c e = absurd (omega (arith, e))
  triangle steps (x ∷ a) (y ∷ b) [] e = omega arith
  triangle steps (x ∷ a) (y ∷ b) (z ∷ c) e =
      omega (arith, steps x y z, triangle steps a b c (omega (arith, e)))

  pub none : ((piece : Piece) → test piece piece ≡ false) → (pieces : List Piece)
      → count test pieces pieces ≡ 0
  none stays [] = refl
  none stays (piece ∷ pieces) =
      let rest = none stays pieces in let here = stays piece in grind arith

  pub set_one : (old new : List Piece) (at : ℕ) (piece : Piece)
      → count test old (slice_set new at piece)
      ≤ count test old new + one_if (test (piece_at old at) piece)
  set_one [] new at piece = omega arith
  set_one (x ∷ old) [] at piece = omega arith
  set_one (x ∷ old) (y ∷ new) zero piece = omega arith
  set_one (x ∷ old) (y ∷ new) (suc at) piece = omega (arith, set_one old new at piece)

  one_at : (olds news : List Piece) (at : ℕ) → at < length olds → at < length news
      → count test (take (suc at) olds) (take (suc at) news)
      ≡ count test (take at olds) (take at news)
      + one_if (test (slice_index_or olds at Empty) (slice_index_or news at Empty))
  one_at [] news at small small' = absurd (omega (arith, small))
  one_at (x ∷ olds) [] at small small' = absurd (omega (arith, small'))
  one_at (x ∷ olds) (y ∷ news) zero small small' = omega arith
  one_at (x ∷ olds) (y ∷ news) (suc at) small small' =
      omega (arith, one_at olds news at (omega (arith, small)) (omega (arith, small')))

  pub one_more : (olds news : List Piece) (at : ℕ) → at < length olds → at < length news
      → count test (take (at + 1) olds) (take (at + 1) news)
      ≡ count test (take at olds) (take at news)
      + one_if (test (slice_index_or olds at Empty) (slice_index_or news at Empty))
  one_more olds news at small small' = search (rules, one_at)
