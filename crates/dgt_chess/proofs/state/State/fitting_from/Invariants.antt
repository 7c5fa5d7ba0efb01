use Rattle.dgt_chess.specs.San.{FitsFrom}
use Rattle.dgt_chess.proofs.state.State.fitting_from.Given as goal

abbrev pub invariant-loop-a : goal.invariant-loop-a
invariant-loop-a l = FitsFrom l.self l.r.b l.r.promotion l.text l.a l.found
