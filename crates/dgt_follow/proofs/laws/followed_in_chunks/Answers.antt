use Rattle.dgt_follow.proofs.Hearing.{followed_in_chunks}
use Rattle.dgt_follow.proofs.laws.followed_in_chunks.Goals as goal

pub returns : goal.returns
returns c = followed_in_chunks c.events_append.ensures c.unfinished_append.ensures
