use Rattle.{std.proofs.Common.{[], ◌++◌, ◌∷◌, refl, rules}, dgt_decode.specs.Feeding.{event_content}, dgt_lines.{specs.Lines.{event_text, offset_text}, proofs.GatherLemmas.{gathers_first}}}
use Rattle.dgt_lines.proofs.LineLemmas.{gathers_text}
use Rattle.dgt_lines.proofs.lines.put_text.Goals as goal

pub returns-in_err-make_room-clause-output : goal.returns-in_err-make_room-clause-output
returns-in_err-make_room-clause-output g c =
    gathers_first _ _ _ _ _ []
    (offset_text c.args.offset ++ 32 ∷ event_text (event_content c.args.event.now)) _ _ _
    refl c.from_residual.ensures.1 c.in_err-make_room.ensures.output

pub returns-in-Some-clause-output : goal.returns-in-Some-clause-output
returns-in-Some-clause-output g c = search (rules, gathers_text)
