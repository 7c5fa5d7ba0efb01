use Rattle.{std.proofs.Common.{◌∙◌, ap, List, []}, dgt_command.specs.Content.{EventContent}, dgt_board.specs.State.{BoardState, effects}, dgt_link.proofs.Promises.{noise_keeps_mode}}
use Rattle.dgt_link.proofs.laws.restart_is_taken.Goals as goal

pub returns-clause-noise : goal.returns-clause-noise
returns-clause-noise c = noise_keeps_mode

pub returns-clause-zeros : goal.returns-clause-zeros
returns-clause-zeros c = λ board after is taken.
    let noise = c.zeros_settle_the_reader.ensures board.partial is in
    let same =
    c.one_division.ensures.1 _ taken.events noise.0 after.partial [] taken.divided noise.2 in (
      same.1,
      ap (λ (state : BoardState). state.mode) taken.state
          ∙ ap (λ (events : List EventContent). (effects board.state events).mode) same.0
          ∙ noise_keeps_mode board.state noise.0 noise.1,
    )
