use Rattle.{dgt_values.specs.Board.{pieces_of}, dgt_game.proofs.{Waiting.{fitting_but, fitting_more}, kings.stands.Goals.{then-not-fits+else-has_other, else-not-fits}}}
use Rattle.dgt_game.proofs.kings.stands.Goals as goal

pub loop-at-preserved : goal.loop-at-preserved
loop-at-preserved c =
    let picture = pieces_of c.from-shown.result.now in
    let pieces = pieces_of c.position-position.result.now in
    let at = c.loop-at in
    elim c.if-not-fits.branch [
      | then-not-fits+else-has_other w ↦ rw w.has_other-is (fitting_but picture pieces at.at
          at.has_other w.if-has_other.false at.invariant)
      | else-not-fits w ↦ rw w.has_other-is (fitting_more picture pieces at.at at.has_other
          (c.fits.ensures.0 w.if-not-fits.false) at.invariant)
    ]
