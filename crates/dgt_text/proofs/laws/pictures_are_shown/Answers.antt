use Rattle.{std.proofs.Common.{rules, List, ℕ, ◌++◌, ◌∙◌, ap}, dgt_link.specs.View.{WorldView}, dgt_values.specs.Placement.{placement_text}, dgt_text.specs.{Ends.{HasBoth}, Simulating.{EndsAlike}}}
use Rattle.dgt_text.proofs.laws.pictures_are_shown.Goals as goal

both : (world : WorldView) (out : List ℕ) → EndsAlike world out
    → HasBoth (placement_text world.board.state.squares) out
both world out ends = (ends.0, ends.2.0, ends.1 ∙ ap (λ (l : List ℕ). ends.0 ++ l) ends.2.1)

pub returns-clause-asked : goal.returns-clause-asked
returns-clause-asked c = search (rules, both)

pub returns-clause-healed : goal.returns-clause-healed
returns-clause-healed c = search (rules, both)
