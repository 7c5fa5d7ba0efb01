use Rattle.{std.proofs.Common.{◌≡◌, ◌++◌, drop, map, replicate, take}, dgt_game.specs.declared.event.TheConstants.{GAP}}
use Rattle.dgt_c.specs.{Games.{move_reported}, declared.header.TheConstants.{NO_CHESS_MOVE}}
use Rattle.dgt_c.proofs.game_events.moves_for_c.Given as goal

abbrev pub invariant-loop-index : goal.invariant-loop-index
invariant-loop-index l =
    l.said ≡ map move_reported (take l.index l.moves) ++ drop l.index (replicate GAP NO_CHESS_MOVE)
