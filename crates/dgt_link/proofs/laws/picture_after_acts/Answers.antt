use Rattle.dgt_link.{proofs.{Asking.{run_promises}, PictureHopes.{calm_promised}}, specs.Machine.{after_moves}}
use Rattle.dgt_link.proofs.laws.picture_after_acts.Goals as goal

pub returns-clause-promised : goal.returns-clause-promised
returns-clause-promised c = λ acts world after answers x stands runs asked.
    let reached = c.acts_are_moves.ensures.all acts world after answers x stands runs in
    (after_moves x reached.0, reached.2, run_promises x acts answers reached.0 reached.1 asked)

pub returns-clause-picture : goal.returns-clause-picture
returns-clause-picture c = λ acts world after answers x stands runs asked quiet.
    let promised = returns-clause-promised c acts world after answers x stands runs asked in
    c.at_quiet_world.ensures.picture after promised.0 promised.1 quiet promised.2

pub returns-clause-kept : goal.returns-clause-kept
returns-clause-kept c = λ acts world after answers x stands runs calm is.
    let reached = c.acts_are_moves.ensures.all acts world after answers x stands runs in
    (after_moves x reached.0, reached.2, calm_promised acts answers x reached.0 calm reached.1 is)
