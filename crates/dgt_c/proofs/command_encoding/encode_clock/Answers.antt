use Rattle.dgt_command.specs.Content.{CommandContent}
use Rattle.dgt_c.proofs.command_encoding.encode_clock.Goals as goal

pub returns-clause-encoded : goal.returns-clause-encoded
returns-clause-encoded c = λ short.
    let said : CommandContent =
    CommandContent.ClockMessage (record { id = c.args.id; payload = c.args.payload.now }) in
    rw c.put_clock.ensures at (c.encode_word.ensures.encoded said c.put_clock.ensures)
