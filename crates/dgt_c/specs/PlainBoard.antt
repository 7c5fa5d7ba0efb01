-- The default board of a handle.
use Rattle.dgt_values.specs.Board.{start_pieces}
use Rattle.dgt_board.specs.Simulated.{simulated_identity, simulated_times}
use Rattle.dgt_board.specs.View.{BoardView, new_view}

abbrev pub plain_board : BoardView
plain_board = new_view start_pieces simulated_times simulated_identity
