use Rattle.dgt_message.proofs.ReadingFits.{reads_view, view_reads}
use Rattle.dgt_message.proofs.laws.views_are_readings.Goals as goal

pub returns : goal.returns
returns c = λ code body r small carried.
    (view_reads code body r small carried, reads_view code body r small carried)
