use Rattle.{std.proofs.Common.{rules}, dgt_command.proofs.ReadWords.{word_is_read}}
use Rattle.dgt_command.proofs.framer.found_word.Goals as goal

pub returns-then-is_command-clause-event : goal.returns-then-is_command-clause-event
returns-then-is_command-clause-event c = search (rules, word_is_read)
