use Rattle.dgt_link.proofs.{Asked.{asked_dump_first, asked_mode_first}, Headlines.{asks_for_picture}}
use Rattle.dgt_link.proofs.laws.asking_counts.Goals as goal

pub returns-clause-mode_first : goal.returns-clause-mode_first
returns-clause-mode_first c = asked_mode_first

pub returns-clause-dump_first : goal.returns-clause-dump_first
returns-clause-dump_first c = asked_dump_first

pub returns-clause-play : goal.returns-clause-play
returns-clause-play c = asks_for_picture
