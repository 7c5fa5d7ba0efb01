use Rattle.{std.proofs.Common.{◌≡◌, ◌≤◌, ◌-◌, length, take}, dgt_follow.specs.Follower.{follower_after}}
use Rattle.dgt_follow.proofs.follower.Follower.hear_all.Given as goal

abbrev pub invariant-loop-at : goal.invariant-loop-at
invariant-loop-at l =
    record {
      within : l.at ≤ length l.chunk;
      heard : l.self ≡ follower_after l.fn.self l.now (take l.at l.chunk);
    }

abbrev pub decreases-loop-at : goal.decreases-loop-at
decreases-loop-at l = length l.chunk - l.at
