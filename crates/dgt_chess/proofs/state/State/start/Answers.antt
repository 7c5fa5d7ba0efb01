use Rattle.{std.proofs.lemmas.Grind.{merely}, dgt_chess.proofs.Start.{at_start}}
use Rattle.dgt_chess.proofs.state.State.start.Goals as goal

pub invariant_of-result : goal.invariant_of-result
invariant_of-result c = record { possible = merely (at_start _ _ c.start.ensures) }
