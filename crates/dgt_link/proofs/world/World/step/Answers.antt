use Rattle.{std.proofs.Common.{refl}, dgt_link.{specs.Act.{act_content}, proofs.Counting.{faulty_step}}}
use Rattle.dgt_link.proofs.world.World.step.Goals as goal

pub returns-clause-kept : goal.returns-clause-kept
returns-clause-kept c = λ other x y stands also coming. c.promise_by_acts.ensures.kept
    (act_content c.args.act) _ _ c.act.result x y other stands c.act.ensures also coming

pub returns-clause-restarted : goal.returns-clause-restarted
returns-clause-restarted c =
    λ is y also.
    c.promise_by_acts.ensures.begun_anew _ _ c.act.result c.stands.ensures.0 y c.stands.ensures.1
    (rw is at c.act.ensures) also

pub returns-clause-clock_asked : goal.returns-clause-clock_asked
returns-clause-clock_asked c =
    λ command mode is sets asks done. c.clocks_heal.ensures.asked command mode _ _ sets asks
    (c.worlds_are_in_step.ensures.in_step _ c.is_world.ensures)
    (faulty_step _ _ _ _ (rw (is, done) at c.act.ensures))

pub returns-clause-clock_following : goal.returns-clause-clock_following
returns-clause-clock_following c =
    λ is going. c.clocks_heal.ensures.following _ _ _ _ refl going is
    (faulty_step _ _ _ _ c.act.ensures)

pub returns-clause-reading : goal.returns-clause-reading
returns-clause-reading c =
    λ is done follows.
    c.clocks_heal.ensures.reading _ _ follows (faulty_step _ _ _ _ (rw (is, done) at c.act.ensures))

pub returns-clause-clock_kept : goal.returns-clause-clock_kept
returns-clause-clock_kept c =
    λ going is. c.clocks_heal.ensures.kept _ _ _ _ refl going is (faulty_step _ _ _ _ c.act.ensures)

pub returns-clause-stays_exact : goal.returns-clause-stays_exact
returns-clause-stays_exact c =
    λ other exact.
    c.acts_keep.ensures.exact (act_content c.args.act) _ _ c.act.result other exact c.act.ensures

pub returns-clause-exact_again : goal.returns-clause-exact_again
returns-clause-exact_again c =
    λ is. c.acts_keep.ensures.exact_again _ _ c.act.result c.is_world.ensures
    (rw is at c.act.ensures)

pub returns-clause-begun : goal.returns-clause-begun
returns-clause-begun c =
    λ is done y also. c.promise_by_acts.ensures.begun _ _ c.stands.ensures.0 y c.stands.ensures.1
    (rw (is, done) at c.act.ensures) also

pub returns-clause-ended : goal.returns-clause-ended
returns-clause-ended c =
    λ is y also.
    c.promise_by_acts.ensures.ended _ _ c.act.result c.stands.ensures.0 y c.stands.ensures.1
    (rw is at c.act.ensures) also
