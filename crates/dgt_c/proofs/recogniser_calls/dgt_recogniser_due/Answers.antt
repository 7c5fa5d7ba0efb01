use Rattle.{std.proofs.Common.{refl, sym}, std.specs.Prelude.{None, Some}}
use Rattle.dgt_c.proofs.recogniser_calls.dgt_recogniser_due.Goals as goal

pub returns-in-Some-clause-due : goal.returns-in-Some-clause-due
returns-in-Some-clause-due c =
    let h = c.in-Some.ensures in
    rw (sym c.get.ensures.value) (
      Some c.in-Some.told,
      (record {
        due = h.due;
        idle = h.idle;
        after = h.after;
        line = h.told;
        right = h.right;
        follows = h.follows;
        doubt = h.doubt;
        marks = h.marks;
        shown = h.shown;
        sure_line = h.sure;
        there = h.there;
        stands = h.stands;
        planned = h.planned;
        found = h.found;
        lost = h.lost;
        hopeless = h.hopeless;
      }),
      (refl, c.game_event_for_c.ensures),
    )

pub returns-in-None-clause-due : goal.returns-in-None-clause-due
returns-in-None-clause-due c =
    let h = c.in-None.ensures in
    rw (sym c.get.ensures.value) (
      None,
      (record {
        due = h.due;
        idle = h.idle;
        after = h.after;
        line = h.told;
        right = h.right;
        follows = h.follows;
        doubt = h.doubt;
        marks = h.marks;
        shown = h.shown;
        sure_line = h.sure;
        there = h.there;
        stands = h.stands;
        planned = h.planned;
        found = h.found;
        lost = h.lost;
        hopeless = h.hopeless;
      }),
      (refl, refl),
    )
