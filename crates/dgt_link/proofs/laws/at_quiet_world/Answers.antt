use Rattle.dgt_link.proofs.WorldsByState.{world_awaits_nothing, world_clock_known, world_clock_reported, world_picture, world_picture_reported}
use Rattle.dgt_link.proofs.laws.at_quiet_world.Goals as goal

pub returns : goal.returns
returns c = record {
  awaited = world_awaits_nothing c.one_division.ensures;
  reported = world_picture_reported c.one_division.ensures;
  clock = world_clock_reported c.one_division.ensures;
  clock_reported = world_clock_known c.one_division.ensures;
  picture = world_picture c.one_division.ensures;
}
