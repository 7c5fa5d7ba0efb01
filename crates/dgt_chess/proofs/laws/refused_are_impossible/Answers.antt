use Rattle.{std.proofs.Common.{arith}, dgt_chess.specs.{declared.possible.Impossible.TheVariants.{Kings, Extra, Pawn, Check, Rights, Passed, Number}, Possible.{RefusedAreImpossible}}}
use Rattle.dgt_chess.proofs.laws.refused_are_impossible.Goals as goal

refused : RefusedAreImpossible
refused Kings pieces turn rights passed number h possible = h possible.kings
refused Extra pieces turn rights passed number h possible = h.1 possible.known
refused Pawn pieces turn rights passed number h possible = h.2 possible.pawns
refused Check pieces turn rights passed number h possible = possible.safe h.3
refused Rights pieces turn rights passed number h possible = h.4 possible.homes
refused Passed pieces turn rights passed number h possible = h.5 possible.steps
refused Number pieces turn rights passed number h possible =
    let none = h.6 in let some = possible.counted in omega arith

pub returns : goal.returns
returns c = refused
