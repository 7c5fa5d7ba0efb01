use Rattle.{std.proofs.{Common.{rules}, lemmas.List.{length-drop, take_all, take_rest}}, dgt_host.proofs.HearingLemmas.{heard_more}}
use Rattle.dgt_host.proofs.host.Host.hear_all.Goals as goal

pub loop-at-preserved : goal.loop-at-preserved
loop-at-preserved c = search (rules, take_rest, length-drop, heard_more)

pub returns : goal.returns
returns c = search (rules, take_all)
