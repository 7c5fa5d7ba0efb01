use Rattle.std.proofs.Common.{append_assoc, refl}
use Rattle.dgt_lines.proofs.command_wording.push_event.Goals as goal

pub returns-in-Stray-clause-text : goal.returns-in-Stray-clause-text
returns-in-Stray-clause-text g c =
    rw (c.in-Stray.is, c.push_hex.ensures.bytes, c.push-in-Stray.ensures.bytes)
    (simp append_assoc refl)
