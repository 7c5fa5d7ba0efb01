use Rattle.{std.proofs.Common.{rules}, dgt_text.proofs.PlayOnce.{acts_once, cut_once, plays_once}}
use Rattle.dgt_text.proofs.laws.scripts_have_one_play.Goals as goal

pub returns-clause-cut : goal.returns-clause-cut
returns-clause-cut c = cut_once

pub returns-clause-played : goal.returns-clause-played
returns-clause-played c = search (rules, plays_once, acts_once)

pub returns-clause-faulty : goal.returns-clause-faulty
returns-clause-faulty c = search (rules, plays_once, acts_once)
