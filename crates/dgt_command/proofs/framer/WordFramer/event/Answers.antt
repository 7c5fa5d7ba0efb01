use Rattle.{std.proofs.Common.{ap, sym}, dgt_command.{specs.Content.{command_content, Read}, proofs.ReadWords.{encodes_its_command}}}
use Rattle.dgt_command.proofs.framer.WordFramer.event.Goals as goal

pub returns-in_ok-command-in-Command : goal.returns-in_ok-command-in-Command
returns-in_ok-command-in-Command c =
    let command = command_content c.in_ok-command-in-Command.command in
    let encodes = c.in_ok-command-in-Command.ensures.some in
    rw (c.in-Command.is, ← c.self.view_is, ← c.as_slice.ensures) (
      (λ found. (command, encodes)),
      ap Read (sym (encodes_its_command command c.as_slice.result.now encodes)),
    )
