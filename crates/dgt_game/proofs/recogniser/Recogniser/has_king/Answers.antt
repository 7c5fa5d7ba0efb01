use Rattle.{std.proofs.Common.{arith, ◌≢◌, ◌∙◌, below_more, refl, sym}, dgt_values.specs.Board.{pieces_of}, dgt_chess.specs.{declared.pieces.Man.{Man}, Attacks.{piece_at, piece_of}}}
use Rattle.dgt_game.proofs.Planning.{piece_got}
use Rattle.dgt_game.proofs.recogniser.Recogniser.has_king.Goals as goal

pub returns-then-is_same : goal.returns-then-is_same
returns-then-is_same c =
    let picture = pieces_of c.args.view.now.shown in
    let at = c.loop-at.at in
    let is = piece_got picture _ at c.get.result
    (c.from_small.ensures.small (omega (arith, c.loop-at-test.true))) c.get.ensures.piece in (
      λ yes. (
        at,
        omega (arith, c.loop-at-test.true),
        is ∙ c.is_same.ensures.0 c.if-is_same.true ∙ c.king.ensures,
      ),
      λ h. refl,
    )

pub loop-at-preserved : goal.loop-at-preserved
loop-at-preserved c =
    let picture = pieces_of c.args.view.now.shown in
    let at = c.loop-at.at in
    let is = piece_got picture _ at c.get.result
    (c.from_small.ensures.small (omega (arith, c.loop-at-test.true))) c.get.ensures.piece in
    below_more (λ k. piece_at picture k ≢ piece_of c.args.colour Man.King) at c.loop-at.invariant
    (λ same. let wrong = c.is_same.ensures.1 (sym is ∙ same ∙ sym c.king.ensures) in
    absurd (cc))

pub returns : goal.returns
returns c = (
  λ no. absurd (cc),
  λ h. absurd (c.loop-at.invariant h.0 (omega (arith, h.1, c.loop-at-test.false)) h.2),
)
