use Rattle.{std.proofs.Common.{arith}, dgt_link.proofs.LineMoves.{hearing_more}}
use Rattle.dgt_link.proofs.moving.to_host.Goals as goal

pub loop-moved-preserved : goal.loop-moved-preserved
loop-moved-preserved c = record {
  most = omega (arith, c.hear_front-moved.ensures.most);
  hearing = hearing_more c.heard_in_chunks.ensures _ _ _ c.args.line.now c.loop-moved.line _
      c.loop-moved.moved
      c.hear_front-moved.result c.loop-moved.invariant.hearing c.hear_front-moved.ensures.heard
      c.hear_front-moved.ensures.left;
}
