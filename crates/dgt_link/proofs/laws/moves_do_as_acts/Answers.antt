use Rattle.{std.{proofs.Common.{rules}, specs.Prelude.{◌≡◌, Some, map}}, dgt_link.{specs.{Machine.{IsHostBreak, Move, commands_anew}, Promise.{requests}}, proofs.Asking.{requests-act}}}
use Rattle.dgt_link.proofs.BothWays.{moves-squares}
use Rattle.dgt_link.proofs.laws.moves_do_as_acts.Goals as goal

breaks : (move : Move) → IsHostBreak move → requests move ≡ map Some commands_anew
breaks move is = search rules

pub returns-clause-requests : goal.returns-clause-requests
returns-clause-requests c = requests-act

pub returns-clause-squares : goal.returns-clause-squares
returns-clause-squares c = moves-squares

pub returns-clause-host_break : goal.returns-clause-host_break
returns-clause-host_break c = breaks
