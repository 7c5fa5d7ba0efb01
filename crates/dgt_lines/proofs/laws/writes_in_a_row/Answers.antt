use Rattle.{std.proofs.Common.{refl}, dgt_lines.proofs.GatherLemmas.{wrote_none, writes_then, stopped_longer, gathered_none, gathered_pushed, gathers_then}}
use Rattle.dgt_lines.proofs.laws.writes_in_a_row.Goals as goal

pub returns : goal.returns
returns g c = record {
  nothing = wrote_none g.W.Sink;
  writes = writes_then g.W.Sink;
  longer = stopped_longer g.W.Sink;
  holds = λ h a s. gathered_pushed g.W.Sink h h _ a a s (gathered_none g.W.Sink h a) refl;
  gathers = gathers_then g.W.Sink;
}
