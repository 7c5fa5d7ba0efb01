-- After at most one fault, a line on which both sides are confirmed ends with the right picture.
use Rattle.{std.proofs.Common.{◌≡◌, refl, inr, ℕ, ◌≤◌, List, Some, true}, dgt_values.specs.declared.pieces.Piece.{Piece}, dgt_host.specs.Confirmed.{Ends, Passage}}
use Rattle.dgt_host.proofs.ConfirmedLemmas.{confirmed_is}

pub few_faults : (start : List Piece) (line : List Passage) (faults : ℕ)
    (reported shown : List Piece) → faults ≤ 1 → Ends start line faults true true reported shown
    → shown ≡ reported
few_faults start line faults reported shown few ends =
    cc (confirmed_is start (Some start) line (inr refl) (rw ends.counts few) ends.restates
    ends.confirms)
