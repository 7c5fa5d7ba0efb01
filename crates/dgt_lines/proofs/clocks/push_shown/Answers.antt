use Rattle.{std.proofs.Common.{append_assoc, refl}, dgt_message.specs.Content.{times_seen}, dgt_lines.proofs.TextLemmas.{clock_in_parts}}
use Rattle.dgt_lines.proofs.clocks.push_shown.Goals as goal

pub returns-clause-text : goal.returns-clause-text
returns-clause-text c =
    let t = times_seen c.args.times in
    rw (
      ← clock_in_parts t,
      c.push_low.ensures.bytes,
      c.push_turn.ensures.bytes,
      c.push_running.ensures.bytes,
      c.push-4.ensures.bytes,
      c.push-3.ensures.bytes,
      c.push-2.ensures.bytes,
      c.push.ensures.bytes,
    )
    (simp (
      append_assoc,
      c.time_text.ensures,
      c.time_text-2.ensures,
      c.first.ensures,
      c.second.ensures,
      c.status.ensures.value,
      c.status-2.ensures.value,
      c.status-3.ensures.value,
    ) refl)
