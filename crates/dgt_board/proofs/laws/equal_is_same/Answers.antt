use Rattle.{dgt_command.specs.declared.decoder.CommandFed.{CommandFed}, dgt_board.specs.declared.boards.Taken.{Taken}}
use Rattle.dgt_board.proofs.laws.equal_is_same.Goals as goal

-- the result of a decoder of commands
as_fed : Taken → CommandFed
as_fed taken = record { used = taken.used; event = taken.event }

pub returns-clause-taken : goal.returns-clause-taken
unfolding as_fed
returns-clause-taken c = λ a b. c.equal_is_same.ensures.fed (as_fed a) (as_fed b)
