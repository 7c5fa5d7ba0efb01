use Rattle.{std.proofs.Common.{rules, sym, ap}, dgt_game.{specs.Planning.{search_wait}, proofs.recogniser.Recogniser.next_of_position.Goals.{then-self, else-self+else-ne+in-Waiting}}}
use Rattle.dgt_game.proofs.recogniser.Recogniser.next_of_position.Goals.{else-self+else-ne+in-Waiting-2, else-self+else-ne+in-Done-2+in_ok-new_wait-in-Done-2}
use Rattle.dgt_game.proofs.recogniser.Recogniser.next_of_position.Goals as goal

pub returns-clause-plans : goal.returns-clause-plans
returns-clause-plans c =
    elim c.if-self.branch [
      | then-self w ↦ rw w.wait-is (search rules)
      | else-self+else-ne+in-Waiting w ↦ rw w.wait-is (
        search rules,
        sym (ap (λ b. search_wait b) w.if-self-2.true),
      )
      | else-self+else-ne+in-Waiting-2 w ↦ rw w.wait-is (
        search rules,
        sym (ap (λ b. search_wait b) w.if-self-2.false),
      )
      | else-self+else-ne+in-Done-2+in_ok-new_wait-in-Done-2 w ↦ rw w.wait-is (search rules)
    ]

pub returns-clause-behind : goal.returns-clause-behind
returns-clause-behind c = λ soon.
    elim c.if-self.branch [
      | then-self w ↦ (let wrong : ⊥ = search rules in absurd wrong)
      | else-self+else-ne+in-Waiting w ↦ rw w.wait-is (search rules)
      | else-self+else-ne+in-Waiting-2 w ↦ (let wrong : ⊥ = search rules in absurd wrong)
      | else-self+else-ne+in-Done-2+in_ok-new_wait-in-Done-2 w ↦ (let wrong : ⊥ = search rules in
          absurd wrong)
    ]
