use Rattle.{std.proofs.Common.{rules, arith, ◌≡◌, None, inl, inr}, dgt_values.specs.Board.{pieces_of, square_number}, dgt_game.proofs.Moved.{Moves, no_man, stays_more}}
use Rattle.dgt_game.proofs.searching.has_moved.Goals.{else-ne-via-then-ne+else-is_some-2, then-is_some, else-is_some+then-eq, else-is_some+else-eq, else-ne-via-else-ne}
use Rattle.dgt_game.proofs.searching.has_moved.Goals as goal

pub loop-at-preserved : goal.loop-at-preserved
loop-at-preserved c =
    let side = c.args.side in
    let square = square_number c.from_small-square.result in
    let old = c.get-old.result in
    let new = c.get-new.result in
    let stays : ¬ (Moves side old new) = elim c.else-ne.branch [
      | else-ne-via-then-ne+else-is_some-2 w ↦ elim w.if-is_some.branch [
        | then-is_some w' ↦ absurd (search rules)
        | else-is_some+then-eq w' ↦
            let none : w.man.result ≡ None = search rules in
            let left : w'.man-then-eq.result ≡ None = search rules in (λ (differs, moved).
            elim moved [
              | inl own ↦ no_man w.man.result side new w.man.ensures.man none own
              | inr gone ↦ no_man w'.man-then-eq.result side old w'.man-then-eq.ensures.man left
                  gone.1
            ])
        | else-is_some+else-eq w' ↦
            let none : w.man.result ≡ None = search rules in (λ (differs, moved).
            elim moved [
              | inl own ↦ no_man w.man.result side new w.man.ensures.man none own
              | inr gone ↦ let is = gone.0 in let wrong : ⊥ = search rules in wrong
            ])
      ]
      | else-ne-via-else-ne w ↦ (λ (differs, moved).
          let same : new ≡ old = search rules in differs same)
    ] in
    stays_more (pieces_of c.args.shown.now) c.args.state.now side square c.loop-at.at old new
    (c.from_small-square.ensures.small (omega (arith, c.loop-at-test.true))) c.get-new.ensures.piece
    (rw c.position.ensures at c.get-old.ensures.piece) stays c.loop-at.invariant
