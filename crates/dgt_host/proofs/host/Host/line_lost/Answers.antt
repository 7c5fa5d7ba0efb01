use Rattle.{std.proofs.Common.{refl}, dgt_decode.specs.Grammar.{unfinished_message}}
use Rattle.dgt_host.proofs.host.Host.line_lost.Goals as goal

pub returns : goal.returns
unfolding unfinished_message
returns c = rw (c.reset.ensures, c.clear.ensures) refl
