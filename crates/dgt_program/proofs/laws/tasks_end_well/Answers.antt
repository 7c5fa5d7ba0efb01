use Rattle.{std.proofs.Common.{rules}, dgt_text.specs.Simulating.{ShowsHealed, ShowsPicture, faulty_rules, plain_rules}, dgt_program.proofs.EndLemmas.{ok_not_failed, ok_run, script_ends}}
use Rattle.dgt_program.proofs.laws.tasks_end_well.Goals as goal

pub returns-clause-flushed : goal.returns-clause-flushed
returns-clause-flushed g c = search (rules, ok_run)

pub returns-clause-shown : goal.returns-clause-shown
returns-clause-shown g c = search (rules, ok_run, ok_not_failed)

pub returns-clause-shown_with_names : goal.returns-clause-shown_with_names
returns-clause-shown_with_names g c = search (rules, ok_run, ok_not_failed)

pub returns-clause-monitored : goal.returns-clause-monitored
returns-clause-monitored g c = search (rules, ok_run)

pub returns-clause-monitored_with_names : goal.returns-clause-monitored_with_names
returns-clause-monitored_with_names g c = search (rules, ok_run)

pub returns-clause-played : goal.returns-clause-played
returns-clause-played g c = script_ends g.R.Source g.W.Sink plain_rules ShowsPicture

pub returns-clause-played_with_faults : goal.returns-clause-played_with_faults
returns-clause-played_with_faults g c = script_ends g.R.Source g.W.Sink faulty_rules ShowsHealed
