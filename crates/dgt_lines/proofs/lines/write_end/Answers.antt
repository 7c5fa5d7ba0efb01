use Rattle.{std.proofs.Common.{append-nil, arith, rules}, dgt_lines.proofs.{GatherLemmas.{wrote_none, writes_then}, LineLemmas.{unfinished_line-none, unfinished_line-some}}}
use Rattle.dgt_lines.proofs.lines.write_end.Goals as goal

pub returns-then-have-eq0-clause-output : goal.returns-then-have-eq0-clause-output
returns-then-have-eq0-clause-output g c = search (rules, unfinished_line-none, wrote_none)

pub returns-in_err-write_unfinished-clause-output
    : goal.returns-in_err-write_unfinished-clause-output
returns-in_err-write_unfinished-clause-output g c = search (rules, unfinished_line-some)

pub returns-clause-output : goal.returns-clause-output
returns-clause-output g c = λ held e.
    rw (unfinished_line-some held c.args.offset c.args.have (omega (arith, e, c.if-have-eq0.false))
    e)
    (rw append-nil at (writes_then _ _ _ _ _ _ _ c.in_ok-write_unfinished.ensures.output
    c.flush.ensures.output))
