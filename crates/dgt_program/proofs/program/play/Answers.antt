use Rattle.std.proofs.Common.{inl, inr}
use Rattle.dgt_program.proofs.program.play.Goals as goal

pub returns-then-faults : goal.returns-then-faults
returns-then-faults g c =
    let made = c.in_ok-world.ensures in
    inl (
      _,
      c.in_ok-position.ensures,
      inr (made.0, made.1, inl (rw (c.if-faults.true, ← made.2) c.play_at_fault.ensures)),
    )

pub returns-else-faults : goal.returns-else-faults
returns-else-faults g c =
    let made = c.in_ok-world.ensures in
    inl (
      _,
      c.in_ok-position.ensures,
      inr (made.0, made.1, inl (rw (c.if-faults.false, ← made.2) c.play_unharmed.ensures)),
    )
