use Rattle.std.proofs.Common.{refl}
use Rattle.dgt_follow.proofs.pace.Pace.note_event.Goals as goal

pub returns : goal.returns
returns c = λ awaited picture unasked changed known.
    let disturbs = c.is_disturbance-disturbs.ensures awaited picture unasked changed in
    let answers = c.is_awaited_dump-answers.ensures awaited unasked in
    let confirms = c.is_confirmed-self-inside.ensures awaited picture unasked changed known in
    rw (← c.self.view_is) (
    rw (
      c.either-self-inside.ensures,
      c.either-self-inside-2.ensures,
      c.either-self-inside-3.ensures,
      c.unless-self-inside.ensures,
      c.unless-still.ensures,
      c.last_serial-self-inside.ensures,
      c.is_unreadable-self-inside.ensures,
      c.last_heard-self-inside.ensures,
      c.last_changed-self-inside.ensures,
      confirms,
      disturbs,
      answers,
      changed,
    ) refl
    )
