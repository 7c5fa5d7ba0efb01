use Rattle.{std.proofs.{Common.{[], Err}, lemmas.List.{append-nil}}, dgt_program.proofs.TaskLemmas.{failed}}
use Rattle.dgt_program.proofs.program.write_bytes.Goals as goal

pub returns-in_err-flush : goal.returns-in_err-flush
returns-in_err-flush g c = let fault = c.in_err-flush.field-0.0 in record {
  run = Err fault;
  answer = failed _ fault c.from_residual-in_err-flush.ensures.1;
  output = rw append-nil at (c.writes_in_a_row.ensures.writes _ _ _ _ [] (Err fault)
      c.in_ok-put.ensures.output c.in_err-flush.ensures.output);
  flushed = tt;
}
