use Rattle.dgt_lines.proofs.log_chunks.put_found.Goals as goal

pub returns : goal.returns
returns g c =
    let said = c.bodies_are_read.ensures.each c.body_found-body.result.now in
    rw (← c.body_found-body.ensures, ← c.saturating_sub-before.ensures)
    (said.0, said.1, c.put_body.ensures said.0 said.1)
