-- Squares backwards.
use Rattle.std.{proofs.{Common.{rules, ◌≡◌, ◌-◌, ◌+◌, ◌<◌, ℕ, suc, refl, arith, length, take, List, [], ◌∷◌, slice_set, slice_get, Some}, lemmas.List.{drop-set, reverse-append}}, specs.Prelude.{drop}}
use Rattle.{std.{specs.Prelude.{reverse}, proofs.{lemmas.Option.{get_or_from_slice_get}, Math.{Seq.{take-suc}, ListN.{drop_of_length-le}}}}, dgt_values.specs.declared.pieces.Piece.{Piece}}

pub turned_first : (pieces : List Piece) → length pieces ≡ 64 → drop 64 pieces ≡ []
turned_first pieces len = drop_of_length-le pieces {i = 64} (omega arith)

taken : (pieces : List Piece) (at : ℕ) (piece : Piece) → at < length pieces
    → slice_get pieces at ≡ Some piece
    → reverse (take (at + 1) pieces) ≡ piece ∷ reverse (take at pieces)
taken pieces at piece small is =
    let n : at + 1 ≡ suc at = omega arith in
    rw (
      n,
      take-suc pieces at piece small,
      get_or_from_slice_get pieces at piece piece is,
      reverse-append (take at pieces) (piece ∷ []),
    ) refl

pub turned_next : (pieces old new : List Piece) (at : ℕ) (piece : Piece) → at < 64
    → length pieces ≡ 64 → length old ≡ 64 → drop (64 - at) old ≡ reverse (take at pieces)
    → slice_get pieces at ≡ Some piece → new ≡ slice_set old (63 - at) piece
    → drop (64 - (at + 1)) new ≡ reverse (take (at + 1) pieces)
turned_next pieces old new at piece small len len' h is e =
    let a : 64 - (at + 1) ≡ 63 - at = omega arith in
    search (rules, drop-set, taken)
