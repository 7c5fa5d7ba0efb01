use Rattle.std.proofs.Common.{inl, refl}
use Rattle.dgt_c.proofs.recogniser_calls.dgt_recogniser_go_on.Goals as goal

pub returns-in-Some-Ok-clause-status : goal.returns-in-Some-Ok-clause-status
returns-in-Some-Ok-clause-status c =
    let says = rw c.in-Some-Ok.field-0-is at c.in-Some-Ok.ensures in
    inl ((c.in-Some-Ok.state, says), refl)

pub returns-in-Some-Ok-clause-on : goal.returns-in-Some-Ok-clause-on
returns-in-Some-Ok-clause-on c = λ _.
    let says = rw c.in-Some-Ok.field-0-is at c.in-Some-Ok.ensures in
    let h = c.go_on.ensures in (
      c.in-Some-Ok.state,
      says,
      record {
        line = h.on;
        sure_line = h.sure;
        right = h.right;
        anew = h.anew;
        staying = h.staying;
        start = h.start;
        stands = h.stands;
        planned = h.planned;
        found = h.found;
        lost = h.lost;
        hopeless = h.hopeless;
        reads = h.reads;
      },
    )
