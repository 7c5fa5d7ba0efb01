use Rattle.{std.proofs.Common.{◌-◌}, dgt_values.proofs.Lanes.{IsCopied}}
use Rattle.dgt_values.proofs.kept.Kept.append_blocks.Given as goal

abbrev pub invariant-loop-at : goal.invariant-loop-at
invariant-loop-at g l =
    IsCopied l.initial.self-inside.bytes l.bytes l.self-inside.bytes l.start l.most l.at

abbrev pub decreases-loop-at : goal.decreases-loop-at
decreases-loop-at g l = l.most - l.at
