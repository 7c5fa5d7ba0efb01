use Rattle.{std.proofs.Common.{rules}, dgt_command.proofs.ReaderLemmas.{partial_limit}}
use Rattle.dgt_command.proofs.framer.WordFramer.partial.Goals as goal

-- a proper prefix of a frame is shorter than the longest frame
pub returns-else-self-clause-limit : goal.returns-else-self-clause-limit
returns-else-self-clause-limit c = search (rules, partial_limit)
