use Rattle.{dgt_command.specs.Framing.{rest_of}, dgt_lines.proofs.Listed.{listed_on}}
use Rattle.dgt_lines.proofs.command_chunks.WordFramerPrinterCOMMANDS_ROOM.lines_go_on.Goals as goal

pub returns : goal.returns
returns c = λ first kept bytes text more printed are.
    listed_on printed c.one_text.ensures.printed more
    (c.parts_of_words.ensures.bytes (rest_of kept) more printed.are_words.partial are)
