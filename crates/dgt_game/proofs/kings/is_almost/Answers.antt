use Rattle.{std.proofs.Common.{rules, arith, ◌≡◌, ℕ, None, refl, subst}, dgt_values.specs.Board.{pieces_of}, dgt_game.specs.Results.{StandsAs}}
use Rattle.dgt_game.proofs.Waiting.{Almost, almost_all, almost_but, almost_more, almost_none}
use Rattle.dgt_game.proofs.kings.is_almost.Goals.{then-not-stands_as+else-is_some, else-not-stands_as}
use Rattle.dgt_game.proofs.kings.is_almost.Goals as goal

pub loop-at-preserved : goal.loop-at-preserved
loop-at-preserved c =
    let fits : ℕ → Type 0 =
    StandsAs (pieces_of c.args.shown.now) (pieces_of c.args.position.now) in
    let at = c.loop-at in
    elim c.if-not-stands_as.branch [
      | then-not-stands_as+else-is_some w ↦
          let none : at.other ≡ None = search rules in
          rw (w.one-is, w.other-is) (almost_but fits at.at at.one (λ is.
          let yes = c.stands_as.ensures.1 is in absurd (cc)) (rw none at at.invariant))
      | else-not-stands_as w ↦ rw (w.one-is, w.other-is) (almost_more fits at.at at.one at.other
          (c.stands_as.ensures.0 w.if-not-stands_as.false) at.invariant)
    ]

pub returns : goal.returns
returns c =
    let fits : ℕ → Type 0 =
    StandsAs (pieces_of c.args.shown.now) (pieces_of c.args.position.now) in
    let end : c.loop-at.at ≡ 64 = omega (arith, c.loop-at-test.false, c.loop-at.auto.at-end) in (
      λ yes. almost_all fits c.loop-at.one c.loop-at.other (subst (λ (n : ℕ). Almost fits n
          c.loop-at.one c.loop-at.other) end c.loop-at.invariant),
      λ almost. refl,
    )
