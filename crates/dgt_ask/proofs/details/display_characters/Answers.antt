use Rattle.dgt_ask.proofs.AskLemmas.{displayed, no_segments, six_of, six_padded}
use Rattle.dgt_ask.proofs.details.display_characters.Goals as goal

pub returns-in_err-ok : goal.returns-in_err-ok
returns-in_err-ok c = rw c.from_residual-in_err-ok.ensures (λ message short shows.
    no_segments _ (six_of c.in_ok-letters.letters) c.display.result message
    (six_padded _ _ short c.in_ok-letters.ensures.1) c.display.ensures.err
    c.in_err-ok.ensures.variant shows)

pub returns : goal.returns
returns c = λ message short shows.
    rw (← displayed _ (six_of c.in_ok-letters.letters) c.display.result c.in_ok-ok.field-0 message
    (six_padded _ _ short c.in_ok-letters.ensures.1) c.display.ensures.ok
    c.in_ok-ok.ensures.value shows) c.clock.ensures
