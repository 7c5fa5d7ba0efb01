use Rattle.{std.proofs.{Common.{rules, arith, ◌≡◌, ◌∙◌, None, sym}, lemmas.Option.{get_or_from_slice_get}}, dgt_values.specs.{Board.{pieces_of}, declared.pieces.Piece.{Piece}}}
use Rattle.{dgt_chess.specs.Attacks.{piece_at}, dgt_game.proofs.{Waiting.{found_none, found_one}, view.only_square.Goals.{then-is_same+else-is_some, else-is_same}}}
use Rattle.dgt_game.proofs.view.only_square.Goals as goal

pub loop-at-preserved : goal.loop-at-preserved
loop-at-preserved c =
    let picture = pieces_of c.args.position.now in
    let piece = c.args.piece in
    let at = c.loop-at in
    let is : piece_at picture at.at ≡ c.get.result =
    get_or_from_slice_get picture at.at c.get.result Piece.Empty
    (rw (c.from_small.ensures.small (omega (arith, c.loop-at-test.true))) at c.get.ensures.piece) in
    elim c.if-is_same.branch [
      | then-is_same+else-is_some w ↦
          let none : at.found ≡ None = search rules in
          rw w.found-is (found_one picture piece at.at at.found none
          (is ∙ c.is_same.ensures.0 w.if-is_same.true) at.invariant)
      | else-is_same w ↦ rw w.found-is (found_none picture piece at.at at.found (λ same.
          let wrong = c.is_same.ensures.1 (sym is ∙ same) in absurd (cc)) at.invariant)
    ]
