use Rattle.std.proofs.Common.{refl}
use Rattle.dgt_game.proofs.ways.Ways.after.Goals as goal

pub returns-in-Only : goal.returns-in-Only
returns-in-Only c = rw c.in-Only.is (c.prepend.result, refl, c.prepend.ensures)
