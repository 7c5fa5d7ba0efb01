use Rattle.{std.proofs.{Common.{append_assoc, rules}, lemmas.List.{take_all}}, dgt_lines.proofs.RankLemmas.{ended_ranks, placement_ended}}
use Rattle.dgt_lines.proofs.pictures.Picture.push.Goals as goal

pub returns : goal.returns
returns g c = search (rules, ended_ranks, take_all, placement_ended, append_assoc)
