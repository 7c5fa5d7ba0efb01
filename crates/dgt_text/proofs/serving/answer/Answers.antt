use Rattle.{std.proofs.Common.{rules}, dgt_text.proofs.ServingLemmas.{halted_exit, served_flushed}}
use Rattle.dgt_text.proofs.serving.answer.Goals as goal

pub returns-in_err-answer_chunk-clause-served : goal.returns-in_err-answer_chunk-clause-served
returns-in_err-answer_chunk-clause-served g c = search (rules, halted_exit)

pub returns-clause-served : goal.returns-clause-served
returns-clause-served g c = search (rules, served_flushed)
