use Rattle.dgt_game.{specs.Planning.{CannotMove}, proofs.Planning.{either_side}}
use Rattle.dgt_game.proofs.recogniser.Recogniser.first_root.Goals as goal

pub returns-in_err-black-in-None-clause-none : goal.returns-in_err-black-in-None-clause-none
returns-in_err-black-in-None-clause-none c = λ none view e.
    let (turned, sides) = c.roots-white.ensures.none in (
      turned,
      either_side (λ turn. CannotMove c.args.self.now.running turned view turn)
          ((sides view e).0 c.in-None.is)
          ((sides view e).1 c.in_err-black-in-None.was),
    )
