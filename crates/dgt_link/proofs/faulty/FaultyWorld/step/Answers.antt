use Rattle.dgt_link.{specs.Faults.{faulty_content}, proofs.{Counting.{undone}, Restarting.{dump_is_done, gives_up, restart_done}}}
use Rattle.dgt_link.proofs.faulty.FaultyWorld.step.Goals as goal

pub returns : goal.returns
returns c =
    let act = faulty_content c.args.act in
    let sane = c.is_faulty.ensures.sane in
    let step = c.act.ensures in
    let hopes = c.steps_heal.ensures in
    let clock = c.clocks_heal.ensures in
    record {
      exact = step;
      unchanged = λ other. undone act _ _ _ other step;
      restart = λ is. restart_done _ _ _ (rw is at step);
      given_up = λ is. gives_up _ _ _ (rw is at step);
      dump_done = λ is few room. dump_is_done _ _ _ few room (rw is at step);
      anew = λ is done. hopes.anew act _ _ is sane (rw done at step);
      in_step = λ keeps is. hopes.in_step act _ _ c.act.result keeps sane is step;
      asked = λ command mode is sets asks done in_step.
          hopes.asked command mode _ _ sets asks in_step (rw (is, done) at step);
      following = λ keeps going is. hopes.following act _ _ c.act.result keeps going sane is step;
      dump = λ is done follows. hopes.dump _ _ follows (rw (is, done) at step);
      kept = λ none going is. hopes.kept act _ _ c.act.result none going sane is step;
      clock_asked = λ command mode is sets asks done in_step.
          clock.asked command mode _ _ sets asks in_step (rw (is, done) at step);
      clock_owed = λ command mode is sets asks none done in_step.
          clock.owed command mode _ _ sets asks none in_step (rw (is, done) at step);
      clock_following = λ keeps going is. clock.following act _ _ c.act.result keeps going is step;
      reading = λ is done follows. clock.reading _ _ follows (rw (is, done) at step);
      clock_kept = λ none going is. clock.kept act _ _ c.act.result none going is step;
      awaited_anew =
          λ is done. c.awaited_replies_come.ensures.anew act _ _ is sane (rw done at step);
      awaited_given_up =
          λ is in_step. c.awaited_replies_come.ensures.given_up _ _ _ in_step (rw is at step);
      awaited_kept =
          λ none is. c.awaited_replies_come.ensures.kept act _ _ c.act.result none sane is step;
    }
