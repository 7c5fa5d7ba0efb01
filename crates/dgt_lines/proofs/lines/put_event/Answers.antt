use Rattle.{std.proofs.Common.{◌++◌, ◌∷◌, codes, refl, rules}, dgt_decode.specs.Feeding.{event_content}, dgt_lines.specs.Lines.{event_line, event_text, offset_text}}
use Rattle.dgt_lines.proofs.GatherLemmas.{gathers_first, gathers_then}
use Rattle.dgt_lines.proofs.lines.put_event.Goals as goal

pub returns-in_err-put_text-clause-output : goal.returns-in_err-put_text-clause-output
returns-in_err-put_text-clause-output g c =
    gathers_first _ _ _ _ _
    (offset_text c.args.offset ++ 32 ∷ event_text (event_content c.args.event.now)) (codes "\n")
    (event_line c.args.offset (event_content c.args.event.now)) _ _ refl
    c.from_residual.ensures.1 c.in_err-put_text.ensures.output

pub returns-clause-output : goal.returns-clause-output
returns-clause-output g c = search (rules, gathers_then, codes)
