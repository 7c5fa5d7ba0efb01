use Rattle.{std.proofs.Common.{refl}, dgt_game.proofs.{Held.{same_line, same_seen}, Moved.{seen_kept}}}
use Rattle.dgt_game.proofs.memory.Memory.leave.Goals as goal

pub returns-in-Line-clause-holds : goal.returns-in-Line-clause-holds
returns-in-Line-clause-holds c = λ shown line h.
    same_line shown line c.args.self.now _ c.set_left.ensures.steps refl refl refl refl h

pub returns-in-Seen-clause-holds : goal.returns-in-Seen-clause-holds
returns-in-Seen-clause-holds c = λ shown line h.
    same_seen shown line c.args.self.now _ refl c.set_left-in-Seen.ensures.steps refl refl refl h

pub returns-in-Seen-clause-seen : goal.returns-in-Seen-clause-seen
returns-in-Seen-clause-seen c = λ picture seen.
    seen_kept c.args.self.now.seen.items _ picture c.set_left-in-Seen.ensures.steps
    c.set_left-in-Seen.ensures.origins seen
