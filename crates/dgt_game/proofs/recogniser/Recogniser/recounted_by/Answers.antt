use Rattle.{dgt_values.specs.Board.{pieces_of}, dgt_game.{specs.{Told.{told_pieces}, Memory.{told_of}}, proofs.Links.{was_shown}}}
use Rattle.dgt_game.proofs.recogniser.Recogniser.recounted_by.Goals as goal

pub returns-clause-linked : goal.returns-clause-linked
returns-clause-linked c = λ shown seen now.
    let first = c.in_ok-first.ensures.linked in
    let second = c.in_ok-second.ensures.linked in (
      first.0,
      was_shown shown (told_of c.in_ok-first.first.step)
          (told_pieces (told_of c.args.node.now.step)) seen first.1,
      second.1,
      was_shown shown (told_of c.in_ok-second.second.step)
          (pieces_of c.args.view.now.shown) now second.2,
    )
