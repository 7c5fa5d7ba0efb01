use Rattle.dgt_decode.proofs.Framing.{closed}
use Rattle.dgt_decode.proofs.framer.Framer.is_between.Goals as goal

pub returns-in-Hunting : goal.returns-in-Hunting
returns-in-Hunting c = λ e. rw (← c.self.view_is) (closed _ _ c.self.invariant c.in-Hunting.is)
