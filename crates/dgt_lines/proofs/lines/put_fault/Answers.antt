use Rattle.{std.proofs.Common.{[], refl}, dgt_decode.specs.Feeding.{event_found_in}, dgt_lines.{specs.Lines.{event_line}, proofs.GatherLemmas.{gathers_first}}}
use Rattle.dgt_lines.proofs.lines.put_fault.Goals as goal

pub returns-in_err-make_room-clause-output : goal.returns-in_err-make_room-clause-output
returns-in_err-make_room-clause-output g c = λ bytes.
    gathers_first _ _ _ _ _ [] (event_line c.args.offset (event_found_in bytes c.args.fault)) _ _ _
    refl c.from_residual.ensures.1 c.in_err-make_room.ensures.output
