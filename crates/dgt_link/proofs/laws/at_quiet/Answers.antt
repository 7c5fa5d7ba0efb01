use Rattle.{std.proofs.{Common.{rules}, lemmas.Bool.{false≢true}}, dgt_link.proofs.Quiet.{quiet_awaited, quiet_clock, quiet_clock_reported, quiet_picture, promised_picture}}
use Rattle.dgt_link.proofs.laws.at_quiet.Goals as goal

pub returns : goal.returns
returns c = record {
  awaited = quiet_awaited;
  picture = quiet_picture;
  clock = quiet_clock;
  clock_reported = quiet_clock_reported;
  promised = promised_picture;
  known = λ picture reported one some. search (rules, false≢true);
}
