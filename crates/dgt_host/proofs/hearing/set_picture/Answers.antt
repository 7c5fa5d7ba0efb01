use Rattle.{std.proofs.Common.{option_map, rules}, dgt_host.proofs.ConfirmedLemmas.{quiet}}
use Rattle.dgt_host.proofs.hearing.set_picture.Goals as goal

pub returns-in_default : goal.returns-in_default
returns-in_default c = search (rules, quiet, option_map)
