use Rattle.{std.proofs.{Common.{rules, arith}, lemmas.List.{length-set}}, dgt_lines.proofs.{RankLemmas.{counted_next, other_next, so_far_none}, pictures.RankText.form.Goals.{then-counts}}}
use Rattle.dgt_lines.proofs.pictures.RankText.form.Goals.{else-counts}
use Rattle.dgt_lines.proofs.pictures.RankText.form.Goals as goal

pub loop-piece-init : goal.loop-piece-init
loop-piece-init c =
    record { text = so_far_none c.args.rank.now; long = c.self.invariant.0; within = omega arith }

pub loop-piece-preserved : goal.loop-piece-preserved
loop-piece-preserved c =
    search (rules, then-counts, counted_next, else-counts, other_next, length-set)
