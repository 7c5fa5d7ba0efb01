-- The default follower of a handle.
use Rattle.dgt_follow.specs.declared.asking.UpdateMode.{UpdateMode}
use Rattle.dgt_follow.specs.Follower.{FollowerView, new_follower}

-- a period of ten seconds, and a patience of six heartbeats
abbrev pub plain_follower : FollowerView
plain_follower = new_follower 10000 6 UpdateMode.UpdateBoard
