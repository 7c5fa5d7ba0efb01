use Rattle.{std.proofs.Common.{rules}, dgt_script.proofs.ScriptLemmas.{word_left}}
use Rattle.dgt_script.proofs.script.no_word.Goals as goal

pub returns-in-Some : goal.returns-in-Some
returns-in-Some c = search (rules, word_left)
