-- `get` borrows the value that the handle owns.
use Rattle.dgt_c.{specs.contracts.handles.DgtBoard.get.Key.{name}, proofs.{EachHandle.{board}, HandleLending.{lends}, handles.DgtBoard.get.Statement.{statement}}}
use Rattle.dgt_c.proofs.handles.DgtBoard.get.Code as code

pub get_spec : {M : Type 1} → statement M
get_spec 𝓤 𝓛 𝓜 𝓡 wired = lends board 𝓤 𝓛 𝓜 𝓡 name (code.unfolded 𝓤 𝓛.H 𝓜 𝓡 wired)
