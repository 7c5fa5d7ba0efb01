use Rattle.dgt_link.proofs.Promises.{dump_is_seen, picture_stays_known}
use Rattle.dgt_link.proofs.laws.dump_is_reported.Goals as goal

pub returns : goal.returns
returns c = record {
  reported = dump_is_seen;
  known = picture_stays_known;
}
