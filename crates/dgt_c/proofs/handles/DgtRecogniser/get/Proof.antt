-- `get` borrows the value that the handle owns.
use Rattle.dgt_c.{specs.contracts.handles.DgtRecogniser.get.Key.{name}, proofs.{EachHandle.{recogniser}, HandleLending.{lends}, handles.DgtRecogniser.get.Statement.{statement}}}
use Rattle.dgt_c.proofs.handles.DgtRecogniser.get.Code as code

pub get_spec : {M : Type 1} → statement M
get_spec 𝓤 𝓛 𝓜 𝓡 wired = lends recogniser 𝓤 𝓛 𝓜 𝓡 name (code.unfolded 𝓤 𝓛.H 𝓜 𝓡 wired)
