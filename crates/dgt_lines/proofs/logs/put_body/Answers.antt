use Rattle.{std.proofs.Common.{rules}, dgt_lines.proofs.StoredLines.{put_all, put_more, put_none, put_stopped}}
use Rattle.dgt_lines.proofs.logs.put_body.Goals as goal

pub loop-at-init : goal.loop-at-init
loop-at-init g c = search (rules, put_none)

pub loop-at-preserved : goal.loop-at-preserved
loop-at-preserved g c = record {
  bound = search (rules, c.loop-at.invariant.bound, c.in_ok-at.ensures.within);
  some = λ things says.
      put_more g.W.Sink _ _ _ _ _ _ _ _ _ things (c.loop-at.invariant.some things says)
      c.loop-at-test.true _ c.in_ok-at.ensures.puts;
}

pub returns-in_err-at : goal.returns-in_err-at
returns-in_err-at g c = λ things says.
    put_stopped g.W.Sink _ _ _ _ _ _ _ _ _ things (c.loop-at.invariant.some things says)
    c.loop-at-test.true _ _ c.from_residual.ensures.1 c.in_err-at.ensures.puts

pub returns : goal.returns
returns g c = search (rules, put_all)
