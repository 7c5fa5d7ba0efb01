use Rattle.dgt_link.proofs.Standing.{run_stands, step_stands}
use Rattle.dgt_link.proofs.laws.acts_are_moves.Goals as goal

pub returns : goal.returns
returns c = record {
  one = λ act world after answer x stands step.
      step_stands c.grammars.ensures act world answer after x stands step;
  all = λ acts world after answers x stands runs.
      run_stands c.grammars.ensures acts world answers after x stands runs;
}
