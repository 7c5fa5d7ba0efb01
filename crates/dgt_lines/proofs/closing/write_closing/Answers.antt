use Rattle.dgt_lines.proofs.ClosingLemmas.{closing_text-parts}
use Rattle.dgt_lines.proofs.closing.write_closing.Goals as goal

pub returns-clause-output : goal.returns-clause-output
returns-clause-output g c =
    let all = closing_text-parts _ _ _ c.args.quiet _ _ _ _
    c.new-text.ensures c.push_board.ensures.text c.push_host.ensures.text c.push_quiet.ensures in
    rw all at c.write_out.ensures.output
