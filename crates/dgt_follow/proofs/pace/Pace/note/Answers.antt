use Rattle.dgt_follow.proofs.pace.Pace.note.Goals as goal

pub returns-in-Some : goal.returns-in-Some
returns-in-Some c =
    λ awaited picture unasked changed known. rw c.in-Some.is (c.note_event.ensures awaited picture
    (rw c.in-Some.is at unasked) (rw c.in-Some.is at changed) known)
