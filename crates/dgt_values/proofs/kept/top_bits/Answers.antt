use Rattle.dgt_values.proofs.Lanes.{splat_clear}
use Rattle.dgt_values.proofs.kept.top_bits.Goals as goal

pub returns : goal.returns
returns c = λ e. splat_clear c.args.lanes c.fits-lanes.0 e
