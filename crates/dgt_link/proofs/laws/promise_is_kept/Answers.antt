use Rattle.dgt_link.proofs.Promises.{anew_is_promised, break_ends, dump_asked, picture_keeps_coming, move-mode}
use Rattle.dgt_link.proofs.laws.promise_is_kept.Goals as goal

pub returns : goal.returns
returns c = record {
  begun = dump_asked;
  kept = picture_keeps_coming;
  mode = move-mode;
  ended = break_ends;
  begun_anew = anew_is_promised;
}
