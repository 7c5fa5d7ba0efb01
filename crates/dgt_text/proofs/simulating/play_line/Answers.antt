use Rattle.{std.proofs.Common.{rules}, dgt_text.proofs.PlayLemmas.{line_put, line_refused}}
use Rattle.dgt_text.proofs.simulating.play_line.Goals as goal

pub returns-in_default-clause-played : goal.returns-in_default-clause-played
returns-in_default-clause-played g c = λ at_end whole bytes h b.
    let stage = g.S.Stage in
    line_refused stage.rules g.W.Sink at_end _ _ _ _ _ _ _ _ c.refuse.ensures.refused
    c.refuse.ensures.bytes
    (stage.rules.long_is_bad whole (rw c.in_default.is at c.line.ensures whole h)) b

pub returns-in-Ok-clause-played : goal.returns-in-Ok-clause-played
returns-in-Ok-clause-played g c = λ at_end whole bytes h b.
    let stage = g.S.Stage in
    let short = rw c.in-Some.is at c.line.ensures whole h in
    line_put stage.rules g.W.Sink at_end _ _ _ _ _ _ _ _ c.in-Ok.outcome
    (rw c.outcome_text.ensures at c.put.ensures.output) (rw short.0 at c.in-Ok.ensures.does) b

pub returns-in-Err-BadLine-clause-played : goal.returns-in-Err-BadLine-clause-played
returns-in-Err-BadLine-clause-played g c = λ at_end whole bytes h b.
    let stage = g.S.Stage in
    let short = rw c.in-Some.is at c.line.ensures whole h in
    rw c.in-Err-BadLine.ensures.unchanged
    (line_refused stage.rules g.W.Sink at_end _ _ _ _ _ _ _ _
    c.refuse-in-Err-BadLine.ensures.refused c.refuse-in-Err-BadLine.ensures.bytes
    (let bad : stage.rules.is_bad whole _ = rw short.0 at c.in-Err-BadLine.ensures.bad in
    search rules) b)
