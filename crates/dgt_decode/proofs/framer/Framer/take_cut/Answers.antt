use Rattle.{std.proofs.Common.{◌∷◌, [], get_or, ◌≤◌, ◌+◌, Some, arith}, dgt_decode.{specs.Taking.{FramesPrefix}, proofs.{Cutoffs.{frames-cut_run}, Framing.{kept-first}}}}
use Rattle.dgt_decode.specs.declared.event.Found.TheVariants as found
use Rattle.dgt_decode.proofs.framer.Framer.take_cut.Goals as goal

-- what is taken, and the byte that is kept
cut : (c : goal.After-self-1)
    → FramesPrefix c.self.inside.kept c.args.rest.now (1 + c.first_top_of_few-run.result)
    (get_or c.args.rest.now c.first_top_of_few-run.result 0 ∷ [])
    (Some (found.Cut (1 + c.first_top_of_few-run.result)))
    × (128 ≤ get_or c.args.rest.now c.first_top_of_few-run.result 0)
cut c =
    let one = c.if-len-ne1.false in
    frames-cut_run c.self.inside.state _ _ _ _ _ c.self.invariant (omega (arith, c.len.ensures))
    (omega arith) c.first_top_of_few-run.ensures c.if-run-eq-FEW.false c.from.ensures
    c.from-2.ensures c.if-total-run.false

pub invariant_of-self : goal.invariant_of-self
invariant_of-self c =
    rw (c.push.ensures.kept (rw c.clear.ensures (omega arith)), c.clear.ensures)
    (kept-first _ (cut c).1)

pub returns : goal.returns
returns c =
    rw (← c.self.view_is, c.push.ensures.kept (rw c.clear.ensures (omega arith)), c.clear.ensures)
    (cut c).0
