use Rattle.{std.proofs.Common.{arith, inr, rules}, dgt_link.proofs.LineMoves.{taking_more, taking_ends, some_moved, left_length}}
use Rattle.dgt_link.proofs.moving.to_board.Goals as goal

pub loop-moved-preserved : goal.loop-moved-preserved
loop-moved-preserved c =
    let rest = left_length _ _ c.args.line.now c.loop-moved.line c.loop-moved.moved
    c.loop-moved.invariant.taking in
    record {
      most = omega arith;
      taking = taking_more c.takings_append.ensures _ _ _ c.args.line.now c.loop-moved.line _
          c.loop-moved.moved
          c.take_front-moved.result c.loop-moved.invariant.taking c.take_front-moved.ensures.some
          (omega (arith, rest, c.take_front-moved.ensures.within)) (omega arith)
          c.take_front-moved.ensures.taken c.take_front-moved.ensures.earlier
          c.take_front-moved.ensures.left;
    }

pub returns-else-owed_len-lt-MAX_OWED : goal.returns-else-owed_len-lt-MAX_OWED
returns-else-owed_len-lt-MAX_OWED c =
    let some = some_moved _ _ c.args.line.now c.loop-moved.line c.loop-moved.moved
    c.loop-moved.invariant.taking (omega arith) (omega arith) in
    λ world.
    record {
      answers = search rules;
      leaves =
          taking_ends world c.args.count c.loop-moved.moved _ _ c.args.line.now c.loop-moved.line
          c.loop-moved.invariant.taking some (omega arith) (inr (inr (search rules)));
    }
