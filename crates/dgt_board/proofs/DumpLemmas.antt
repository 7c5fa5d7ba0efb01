-- The bytes of a dump.
use Rattle.std.proofs.Common.{◌≡◌, ℕ, ◌≤◌, List, ◌∷◌, ◌++◌, length, drop, slice_set, rules}
use borrow.Rule.Slice.PartMut.{put_mid}

-- a header of three bytes and a body of 64 are put at the beginning
pub header_and_body : (old body : List ℕ) → length body ≡ 64 → 67 ≤ length old
    → put_mid 3 64 (slice_set (slice_set (slice_set old 0 134) 1 0) 2 67) body
    ≡ 134 ∷ 0 ∷ 67 ∷ body ++ drop 67 old
header_and_body old body size fits = search rules
