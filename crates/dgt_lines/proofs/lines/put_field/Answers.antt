use Rattle.{std.proofs.Common.{[], append_assoc, refl, rules}, dgt_values.specs.Board.{square_number}, dgt_message.specs.Content.Content.{field}, dgt_decode.specs.Grammar.{Message}}
use Rattle.dgt_lines.{specs.Lines.{event_line, event_text}, proofs.GatherLemmas.{gathered_pushed, gathers_first}}
use Rattle.dgt_lines.proofs.lines.put_field.Goals as goal

pub returns-in_err-make_room-clause-output : goal.returns-in_err-make_room-clause-output
returns-in_err-make_room-clause-output g c =
    gathers_first _ _ _ _ _ []
    (event_line c.args.offset (Message (field (square_number c.args.square) c.args.piece)))
    _ _ _ refl c.from_residual.ensures.1 c.in_err-make_room.ensures.output

pub returns-clause-output : goal.returns-clause-output
unfolding event_text
returns-clause-output g c = search (rules, gathered_pushed, append_assoc)
