use Rattle.std.proofs.Common.{append_assoc, refl}
use Rattle.dgt_lines.proofs.command_wording.push_raw.Goals as goal

pub returns-clause-text : goal.returns-clause-text
returns-clause-text g c = rw (
  c.payload.ensures.unread,
  c.push_bytes.ensures.text,
  c.push-2.ensures.bytes,
  c.push_hex.ensures.bytes,
  c.push.ensures.bytes,
  c.bytes.ensures.bytes,
  c.payload.ensures.payload,
  c.id.ensures,
) (simp append_assoc refl)
