use Rattle.{std.proofs.Common.{◌≡◌, ◌≤◌, ◌-◌, length, take}, dgt_host.specs.Host.{host_after}}
use Rattle.dgt_host.proofs.host.Host.hear_all.Given as goal

abbrev pub invariant-loop-at : goal.invariant-loop-at
invariant-loop-at l =
    record {
      within : l.at ≤ length l.chunk;
      heard : l.self ≡ host_after l.fn.self (take l.at l.chunk);
    }

abbrev pub decreases-loop-at : goal.decreases-loop-at
decreases-loop-at l = length l.chunk - l.at
