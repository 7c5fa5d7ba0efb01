use Rattle.{std.proofs.Common.{rules, refl}, dgt_c.proofs.{ChessLemmas.{no_lead}, EncodingLemmas.{are_pieces}}}
use Rattle.dgt_c.proofs.chess.dgt_chess_move_to.Goals as goal

pub returns-in_default-clause-none : goal.returns-in_default-clause-none
returns-in_default-clause-none c = λ e. (λ move h. c.in_default.ensures (h.0, h.2), refl)

pub returns-in_default-read_position-clause-none : goal.returns-in_default-read_position-clause-none
returns-in_default-read_position-clause-none c = search (rules, are_pieces)

pub returns-in-None-clause-none : goal.returns-in-None-clause-none
returns-in-None-clause-none c = λ e. (
  no_lead c.one_piece_a_code.ensures _ _ _ _ c.in-Some.ensures c.in-Some-read_position.ensures
      c.in-None.ensures,
  refl,
)
