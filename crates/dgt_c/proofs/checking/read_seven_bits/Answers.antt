use Rattle.{std.proofs.{Common.{rules}, lemmas.List.{length-map, length-set, take_all}}, dgt_message.proofs.Codes.{one_more_read}}
use Rattle.dgt_c.proofs.checking.read_seven_bits.Goals as goal

pub loop-index-preserved : goal.loop-index-preserved
loop-index-preserved g c = search (rules, one_more_read, length-set)

pub returns : goal.returns
returns g c = search (rules, length-map, take_all)
