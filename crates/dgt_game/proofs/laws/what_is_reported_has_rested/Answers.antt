use Rattle.dgt_game.proofs.Settling.{last_is_shown, nothing_waits_long, replacing_has_rested, reported_has_rested, reported_has_settled, reported_is_next, reported_is_shown, seen_is_answered}
use Rattle.dgt_game.proofs.laws.what_is_reported_has_rested.Goals as goal

pub returns : goal.returns
returns c = record {
  rested = reported_has_rested;
  settled = reported_has_settled;
  shown = reported_is_shown;
  next = reported_is_next;
  last = last_is_shown;
  replacing = replacing_has_rested;
  long = nothing_waits_long;
  answered = seen_is_answered;
  enough = λ self new event now planned quiet small due. (planned, quiet, small, due);
  at = λ self step shown line knows next kings here is. (next, kings, here, is, knows.held.rooted);
}
