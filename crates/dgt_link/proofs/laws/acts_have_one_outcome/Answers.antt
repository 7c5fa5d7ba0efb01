use Rattle.dgt_link.proofs.OneOutcome.{one_faulty_step, one_run, one_step}
use Rattle.dgt_link.proofs.laws.acts_have_one_outcome.Goals as goal

pub returns : goal.returns
returns c =
    let taking = c.one_taking.ensures in
    record { one = one_step taking; all = one_run taking; faulty = one_faulty_step taking }
