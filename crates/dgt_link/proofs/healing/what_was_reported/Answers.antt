use Rattle.dgt_link.proofs.KnownPictures.{reported_at_once, sending_sends, silent_moves}
use Rattle.dgt_link.proofs.healing.what_was_reported.Goals as goal

pub returns-clause-at_once : goal.returns-clause-at_once
returns-clause-at_once c = λ x report. (reported_at_once x report).1

pub returns-clause-heard : goal.returns-clause-heard
returns-clause-heard c = λ x report. (reported_at_once x report).0

pub returns-clause-sent : goal.returns-clause-sent
returns-clause-sent c = sending_sends

pub returns-clause-silent : goal.returns-clause-silent
returns-clause-silent c = silent_moves
