use Rattle.dgt_script.proofs.ScriptLemmas.{length-left_words}
use Rattle.dgt_script.proofs.script.wrong_from.Goals as goal

pub returns-in-Some : goal.returns-in-Some
returns-in-Some c = length-left_words c.args.rest c.in-Some.bytes c.in-Some.is
