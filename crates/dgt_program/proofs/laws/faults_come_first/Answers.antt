use Rattle.{std.proofs.Common.{rules}, dgt_program.proofs.EndLemmas.{no_run, no_script}}
use Rattle.dgt_program.proofs.laws.faults_come_first.Goals as goal

pub returns : goal.returns
returns g c = search (rules, no_run, no_script)
