use Rattle.{std.proofs.Common.{rules}, dgt_script.proofs.{KeepLemmas.{kept_more, long_stays, long_more}, script_lines.LineBuffer.add.Goals.{then-self, else-self}}}
use Rattle.dgt_script.proofs.script_lines.LineBuffer.add.Goals as goal

pub returns : goal.returns
returns c = search (rules, kept_more, then-self, long_stays, else-self, long_more)
