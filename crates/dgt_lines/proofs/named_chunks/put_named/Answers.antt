use Rattle.{std.proofs.Common.{rules}, dgt_lines.proofs.NamedLemmas.{gathers_named, name_refused, text_refused}}
use Rattle.dgt_lines.proofs.named_chunks.put_named.Goals as goal

pub returns-in_err-put_text-clause-output : goal.returns-in_err-put_text-clause-output
returns-in_err-put_text-clause-output g c =
    text_refused g.W.Sink _ _ _ _ _ _ _ _ c.from_residual.ensures.1 c.in_err-put_text.ensures.output

pub returns-in_err-put_name-clause-output : goal.returns-in_err-put_name-clause-output
returns-in_err-put_name-clause-output g c =
    name_refused g.W.Sink _ _ _ _ _ _ c.in_ok-put_text.ensures.output _ _ _ _
    c.from_residual-in_err-put_name.ensures.1 c.in_err-put_name.ensures.output

pub returns-clause-output : goal.returns-clause-output
returns-clause-output g c = search (rules, gathers_named)
