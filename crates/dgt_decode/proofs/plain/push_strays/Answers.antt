use Rattle.{std.proofs.Common.{rules}, dgt_decode.proofs.Cutting.{reported_stray}}
use Rattle.dgt_decode.proofs.plain.push_strays.Goals as goal

pub loop-index-preserved : goal.loop-index-preserved
loop-index-preserved c = search (rules, reported_stray)
