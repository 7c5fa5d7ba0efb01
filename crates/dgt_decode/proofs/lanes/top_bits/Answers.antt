use Rattle.{std.proofs.Common.{leb, arith}, dgt_decode.proofs.Chunks.{splat_mask}}
use Rattle.dgt_decode.proofs.lanes.top_bits.Goals as goal

pub returns : goal.returns
returns c = splat_mask leb 128 32 c.args.lanes c.fits-lanes.0 (omega arith)
