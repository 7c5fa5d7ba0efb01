use Rattle.{std.proofs.Common.{refl}, dgt_decode.specs.Grammar.{unfinished_message}}
use Rattle.dgt_host.proofs.host.Host.new.Goals as goal

pub returns : goal.returns
unfolding unfinished_message
returns c = rw (c.new.ensures, c.new-2.ensures) refl
