use Rattle.dgt_game.proofs.Rests.{only_shown, rest_is_reported, shown_is_next}
use Rattle.dgt_game.proofs.laws.what_rests_is_reported.Goals as goal

pub returns : goal.returns
returns c = record {
  rest = rest_is_reported;
  only = only_shown;
  next = shown_is_next;
  enough = λ self now sure confirmed long idle. (sure, confirmed, long, idle);
}
