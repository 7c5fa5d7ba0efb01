use Rattle.{std.proofs.Common.{length, sym, ap, ◌∙◌}, dgt_decode.proofs.Framing.{closed, kept_unfinished}}
use Rattle.dgt_decode.proofs.framer.Framer.unfinished_len.Goals as goal

pub returns-in-Hunting : goal.returns-in-Hunting
returns-in-Hunting c =
    rw (← c.self.view_is) (sym (ap length (closed _ _ c.self.invariant c.in-Hunting.is)))

pub returns-in-Head : goal.returns-in-Head
returns-in-Head c = rw (← c.self.view_is) (c.len.ensures
    ∙ sym (ap length (kept_unfinished _ _ c.self.invariant c.in-Head.is)))
