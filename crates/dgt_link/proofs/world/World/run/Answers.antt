use Rattle.dgt_link.proofs.{Counting.{faulty_runs}, Settling.{rests}}
use Rattle.dgt_link.proofs.world.World.run.Goals as goal

pub returns-clause-promised : goal.returns-clause-promised
returns-clause-promised c =
    λ outcomes runs asked.
    c.picture_after_acts.ensures.promised _ _ _ outcomes c.stands.ensures.0 c.stands.ensures.1
    runs asked

pub returns-clause-in_order : goal.returns-clause-in_order
returns-clause-in_order c =
    λ outcomes worlds square runs none unread up.
    c.worlds_show_in_order.ensures _ _ outcomes worlds square c.is_world.ensures none unread up runs

pub returns-clause-kept : goal.returns-clause-kept
returns-clause-kept c =
    λ calm x stands is. c.picture_after_acts.ensures.kept _ _ _ c.act_all-done.ensures.0 x stands
    c.act_all-done.ensures.2 calm is

pub returns-clause-clock_kept : goal.returns-clause-clock_kept
returns-clause-clock_kept c =
    λ calm is. c.clocks_heal.ensures.kept_by_all _ _ _ c.act_all-done.ensures.0 calm is
    (faulty_runs _ _ _ _ c.act_all-done.ensures.2)

pub returns-clause-moves : goal.returns-clause-moves
returns-clause-moves c =
    λ outcomes runs x stands. c.acts_are_moves.ensures.all _ _ _ outcomes x stands runs

pub returns-clause-fair : goal.returns-clause-fair
returns-clause-fair c =
    λ rounds has enough. rests c.grammars.ensures.reads c.grammars.ensures.once _
    (rw c.self-2.view_is at c.self-2.invariant)
    (c.fair_rounds_rest.ensures rounds _ _ _ c.act_all-done.ensures.0 c.is_world.ensures
    (rw c.self.view_is at c.reports_are_short.ensures.identity)
    (rw c.self.view_is at c.reports_are_short.ensures.clock) has enough c.act_all-done.ensures.2)
    (rw c.self-2.view_is at c.holds_unfinished.ensures)
