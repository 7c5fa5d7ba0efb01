use Rattle.{std.proofs.Common.{◌+◌, rules}, dgt_chess.{specs.{Attacks.{IsFree}, Rules.{board}}, proofs.Rays.{one_more}}}
use Rattle.dgt_chess.proofs.state.State.goals_above.Goals as goal

pub loop-line-preserved : goal.loop-line-preserved
loop-line-preserved c =
    let free : IsFree (board c.args.self.now) (c.loop-line.at + c.step-at.result) = search rules in
    record {
      above = search rules;
      small = search rules;
      on = search rules;
      clear = one_more c.args.line (board c.args.self.now) c.args.mover.from c.loop-line.at
          c.step-at.result c.step-at.ensures.value c.loop-line.invariant.on
          c.loop-line.invariant.clear free;
      sound = search rules;
      whole = search rules;
    }
