use Rattle.dgt_game.proofs.{Finding.{moved_is_searched}, Moved.{man_has_moved}, Pictures.{repetition_is_read, seen_is_followed, two_to_four}, Planning.{lifted_is_gone}}
use Rattle.dgt_game.proofs.laws.what_has_moved.Goals as goal

pub returns-clause-man : goal.returns-clause-man
returns-clause-man c = man_has_moved

pub returns-clause-searched : goal.returns-clause-searched
returns-clause-searched c = moved_is_searched

pub returns-clause-several : goal.returns-clause-several
returns-clause-several c = two_to_four

pub returns-clause-seen : goal.returns-clause-seen
returns-clause-seen c = seen_is_followed

pub returns-clause-repeated : goal.returns-clause-repeated
returns-clause-repeated c = repetition_is_read

pub returns-clause-lifted : goal.returns-clause-lifted
returns-clause-lifted c = lifted_is_gone
