use Rattle.dgt_followed.proofs.BothWays.{acts_rest, moves_rest, others_rest, reported_rests}
use Rattle.dgt_followed.proofs.what_is_sound.Goals as goal

pub returns-clause-acts : goal.returns-clause-acts
returns-clause-acts c = acts_rest

pub returns-clause-moves : goal.returns-clause-moves
returns-clause-moves c = moves_rest

pub returns-clause-reported : goal.returns-clause-reported
returns-clause-reported c = reported_rests

pub returns-clause-others : goal.returns-clause-others
returns-clause-others c = others_rest
