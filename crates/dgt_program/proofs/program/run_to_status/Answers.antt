use Rattle.{std.proofs.Common.{refl}, dgt_program.proofs.TaskLemmas.{either_result}}
use Rattle.dgt_program.proofs.program.run_to_status.Goals as goal

pub returns-in-Ok-clause-status : goal.returns-in-Ok-clause-status
returns-in-Ok-clause-status g c =
    either_result _ _ _ _ c.args.task
    (λ task does. (_, _, _, c.new-input.ensures, c.new-output.ensures, does, rw c.in-Ok.is refl))
    (λ bad h. absurd cc) c.run.ensures

pub returns-in-Err-clause-status : goal.returns-in-Err-clause-status
returns-in-Err-clause-status g c =
    let from = c.new-input.ensures in
    let to = c.new-output.ensures in
    either_result _ _ _ _ c.args.task
    (λ task does. (_, _, _, from, to, does, rw c.in-Err.is c.report.ensures.status))
    (λ bad h. (h.0, h.1, cc)) c.run.ensures
