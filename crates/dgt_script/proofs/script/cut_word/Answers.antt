use Rattle.{std.proofs.Common.{rules}, dgt_script.proofs.ScriptLemmas.{first_word}}
use Rattle.dgt_script.proofs.script.cut_word.Goals as goal

pub returns : goal.returns
returns c = search (rules, first_word)
