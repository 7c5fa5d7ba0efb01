use Rattle.dgt_ask.proofs.AskLemmas.{eight_padded}
use Rattle.dgt_ask.proofs.details.text_characters.Goals as goal

pub returns : goal.returns
returns c = λ short ascii.
    rw (← eight_padded _ _ short c.in_ok-letters.ensures.1) c.clock.ensures
