use Rattle.{dgt_values.specs.Board.{pieces_of}, dgt_lines.proofs.RankLemmas.{ranks_text-eight}}
use Rattle.dgt_lines.proofs.pictures.Picture.new.Goals as goal

pub invariant_of-result : goal.invariant_of-result
invariant_of-result c = rw (
  c.new.ensures,
  c.new-2.ensures,
  c.new-3.ensures,
  c.new-4.ensures,
  c.new-5.ensures,
  c.new-6.ensures,
  c.new-7.ensures,
  c.new-8.ensures,
  c.pieces-pieces.ensures.pieces,
) (ranks_text-eight (pieces_of c.args.position.now))
