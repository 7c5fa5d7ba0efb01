use Rattle.std.proofs.Common.{inl, refl}
use Rattle.dgt_c.proofs.chess_states.status_for_c.Goals as goal

pub returns-in-Some-Ok : goal.returns-in-Some-Ok
returns-in-Some-Ok c =
    let says = rw c.in-Some-Ok.field-0-is at c.in-Some-Ok.ensures in
    inl ((c.in-Some-Ok.field-0-0, says), refl)
