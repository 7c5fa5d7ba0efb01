use Rattle.{std.proofs.{Common.{rules}, lemmas.List.{length-drop, take_all, take_rest}}, dgt_follow.{proofs.Hearing.{heard_more}}}
use Rattle.dgt_follow.proofs.follower.Follower.hear_all.Goals as goal

pub loop-at-preserved : goal.loop-at-preserved
loop-at-preserved c = search (rules, take_rest, length-drop, heard_more)

pub returns : goal.returns
returns c = search (rules, take_all)
