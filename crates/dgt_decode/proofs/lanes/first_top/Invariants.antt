use Rattle.{std.{proofs.Common.{ℕ, List, length, drop, ◌-◌, ◌≡◌, ◌+◌, ◌≤◌}, specs.List.{position_or_len}}, dgt_decode.specs.Grammar.{has_top_bit}}
use Rattle.dgt_decode.proofs.lanes.first_top.Given as goal

-- none of the first bytes is the one searched for
pub record IsPassed (bytes : List ℕ) (at : ℕ) : Type 0 where
  pub within : at ≤ length bytes
  pub passed : at + position_or_len has_top_bit (drop at bytes) ≡ position_or_len has_top_bit bytes

abbrev pub invariant-loop-at : goal.invariant-loop-at
invariant-loop-at l = IsPassed l.bytes l.at

abbrev pub decreases-loop-at : goal.decreases-loop-at
decreases-loop-at l = length l.bytes - l.at

abbrev pub invariant-tail : goal.invariant-tail
invariant-tail l = IsPassed l.bytes l.at

abbrev pub decreases-tail : goal.decreases-tail
decreases-tail l = length l.bytes - l.at
