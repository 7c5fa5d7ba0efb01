use Rattle.{std.proofs.Common.{rules}, dgt_follow.proofs.Slices.{frame_sent, short_sent}}
use Rattle.dgt_follow.proofs.follower.Follower.send.Goals as goal

pub returns-in-Ok-clause-sends : goal.returns-in-Ok-clause-sends
returns-in-Ok-clause-sends c =
    let code = rw c.mode.ensures at c.code-code.ensures in
    rw (← c.self.view_is) (frame_sent c.self.inside.pace.mode _ _ _ _ _ _ _ _ _ (search rules) code
    (search rules) c.in-Ok.ensures.sends)

pub returns-in-Err-NoRoom-clause-limit : goal.returns-in-Err-NoRoom-clause-limit
returns-in-Err-NoRoom-clause-limit c = search (rules, short_sent)
