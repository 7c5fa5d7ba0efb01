use Rattle.{std.proofs.Common.{rules}, dgt_lines.proofs.{ChunkLemmas.{gathers_none, gathers_refused, gathers_some}, Logged.{logged_event, logged_more}}}
use Rattle.dgt_lines.proofs.log_chunks.LogPrinterLOG_ROOM.gather.Goals as goal

pub returns-in_err-put_found-clause-output : goal.returns-in_err-put_found-clause-output
returns-in_err-put_found-clause-output g c =
    λ first bytes text printed counted.
    let put = c.in_err-put_found.ensures in
    gathers_refused bytes _ text c.advance-advanced.result.used _
    (search (rules, logged_event))
    _ _ c.from_residual.ensures.1 put.2.output

pub returns-in_ok-put_found-clause-output : goal.returns-in_ok-put_found-clause-output
returns-in_ok-put_found-clause-output g c = search (rules, gathers_some, logged_event)

pub returns-in_default-clause-output : goal.returns-in_default-clause-output
returns-in_default-clause-output g c =
    λ first bytes text printed counted.
    gathers_none bytes _ text c.advance-advanced.result.used
    (search (rules, logged_more))
