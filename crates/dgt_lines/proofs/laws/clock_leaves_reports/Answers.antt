use Rattle.dgt_lines.proofs.ClockLemmas.{clock_leaves_reports, hidden_clock_is_silent}
use Rattle.dgt_lines.proofs.laws.clock_leaves_reports.Goals as goal

pub returns : goal.returns
returns c = record {
  others = clock_leaves_reports;
  silent = hidden_clock_is_silent;
}
