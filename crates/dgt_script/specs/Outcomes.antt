-- The lines of the outcomes of acts.
use Rattle.std.specs.Prelude.{ℕ, List, codes}
use Rattle.dgt_link.specs.declared.acts.Outcome.{Outcome}
use Rattle.dgt_link.specs.declared.acts.Outcome.TheVariants.{Done, Nothing, NoRoom, Busy, TooMany}

abbrev pub outcome_line : Outcome → List ℕ
outcome_line Done = codes "done\n"
outcome_line Nothing = codes "nothing\n"
outcome_line NoRoom = codes "noroom\n"
outcome_line Busy = codes "busy\n"
outcome_line TooMany = codes "toomany\n"
