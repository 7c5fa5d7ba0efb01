use Rattle.dgt_link.proofs.SettlingMoves.{quiet_is_reached, settling_clock, settling_mode, settling_picture, settling_squares}
use Rattle.dgt_link.proofs.laws.quiet_is_reached.Goals as goal

pub returns : goal.returns
returns c = record {
  reached = quiet_is_reached c.bounded_backlog.ensures.falls c.bounded_backlog.ensures.rises;
  squares = settling_squares;
  clock = settling_clock;
  mode = settling_mode;
  picture = settling_picture;
}
