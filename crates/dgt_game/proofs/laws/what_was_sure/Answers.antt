use Rattle.dgt_game.proofs.Runs.{last_was_shown, nothing_was_sure, shown_may_end, sure_is_counted, sure_is_seen, sure_was_shown}
use Rattle.dgt_game.proofs.laws.what_was_sure.Goals as goal

pub returns : goal.returns
returns c = record {
  seen = sure_is_seen;
  counted = sure_is_counted;
  runs = sure_was_shown;
  last = last_was_shown;
  none = nothing_was_sure;
  ends = shown_may_end;
}
