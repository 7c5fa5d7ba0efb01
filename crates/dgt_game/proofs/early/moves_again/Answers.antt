use Rattle.{std.proofs.Common.{rules, arith, ◌≡◌, inl, inr}, dgt_values.specs.{declared.pieces.Piece.{Piece}, Board.{pieces_of, square_number}}, dgt_chess.specs.Attacks.{other}}
use Rattle.dgt_game.proofs.{Moved.{Keeps, kept_more, some_man}, early.moves_again.Goals.{then-ne+then-is_some-2, then-is_some, else-is_some+else-eq, then-ne+else-is_some-2+else-ne-2, else-ne}}
use Rattle.dgt_game.proofs.early.moves_again.Goals as goal

pub loop-at-preserved : goal.loop-at-preserved
loop-at-preserved c =
    let state = c.args.state.now in
    let side = c.other-side.result in
    let square = square_number c.from_small-square.result in
    let old = c.get-old.result in
    let new = c.get-new.result in
    let keeps : Keeps side old new = elim c.if-ne.branch [
      | then-ne+then-is_some-2 w ↦ inr (inl (some_man w.man-then-ne.result side new
          w.man-then-ne.ensures.man (search rules)))
      | then-ne+else-is_some-2+else-ne-2 w ↦
          let gone : new ≡ Piece.Empty = search rules in
          elim w.if-is_some.branch [
            | then-is_some w' ↦ inr (inr (
              gone,
              some_man w.man.result side old
                  w.man.ensures.man (search rules),
            ))
            | else-is_some+else-eq w' ↦ absurd (search rules)
          ]
      | else-ne w ↦ let same : new ≡ old = search rules in inl same
    ] in
    let sides : side ≡ other state.turn = search rules in
    kept_more (pieces_of c.args.shown.now) state side square c.loop-at.at old new
    (c.from_small-square.ensures.small (omega (arith, c.loop-at-test.true))) c.get-new.ensures.piece
    (rw c.position.ensures at c.get-old.ensures.piece) sides keeps c.loop-at.invariant
