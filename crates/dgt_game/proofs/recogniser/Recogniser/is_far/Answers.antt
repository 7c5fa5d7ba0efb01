use Rattle.{std.{proofs.Common.{rules, ◌≡◌, Some}}, dgt_game.{specs.Planning.{IsFarFrom}, proofs.Standing.{of_some, some_of}}}
use Rattle.dgt_game.proofs.recogniser.Recogniser.is_far.Goals as goal

pub returns-in-Some : goal.returns-in-Some
unfolding IsFarFrom
returns-in-Some c =
    let view = c.in-Some.view in
    let law = c.is_far_from_last.ensures in (
      λ yes. (view, c.in-Some.is, some_of _ _ (law.0 yes)),
      λ (shown, seen, (step, at, far)).
          let same : shown ≡ view = search (rules, seen, c.in-Some.is) in
          law.1 (of_some _ step _ at (rw same at far)),
    )

pub returns-in-None : goal.returns-in-None
unfolding IsFarFrom
returns-in-None c = (λ no. absurd (search rules), λ (shown, seen, more). search rules)
