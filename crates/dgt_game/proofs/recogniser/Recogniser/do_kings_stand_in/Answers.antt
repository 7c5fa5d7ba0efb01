use Rattle.{dgt_values.specs.Board.{pieces_of}, dgt_chess.specs.declared.pieces.Colour.{Colour}, dgt_game.proofs.Settling.{kings_stand}}
use Rattle.dgt_game.proofs.recogniser.Recogniser.do_kings_stand_in.Goals as goal

pub returns-then-not-has_king : goal.returns-then-not-has_king
returns-then-not-has_king c = (
  λ no. absurd (cc),
  λ h. let wrong = c.has_king.ensures.1 (h.0 Colour.White) in absurd (cc),
)

pub returns-then-not-has_king-2 : goal.returns-then-not-has_king-2
returns-then-not-has_king-2 c = (
  λ no. absurd (cc),
  λ h. let wrong = c.has_king-2.ensures.1 (h.0 Colour.Black) in absurd (cc),
)

pub returns : goal.returns
returns c = (
  λ yes. kings_stand (pieces_of c.args.view.now.shown)
      (c.has_king.ensures.0 c.if-not-has_king.false)
      (c.has_king-2.ensures.0 c.if-not-has_king-2.false) (c.is_centre_free.ensures.0 yes),
  λ h. c.is_centre_free.ensures.1 h.1,
)
