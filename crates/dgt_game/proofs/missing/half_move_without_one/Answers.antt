use Rattle.std.proofs.{Common.{rules, arith, ◌≡◌, subst}, lemmas.Bool.{false≢true}}
use Rattle.std.specs.Prelude.{IsSome}
use Rattle.{dgt_values.specs.Board.{pieces_of}, dgt_game.proofs.Gone.{Found, all_found, found_next, two_found}}
use Rattle.dgt_game.proofs.missing.half_move_without_one.Goals.{else-is_some-via-then-is_some+else-is_some-2, else-is_some-via-else-is_some}
use Rattle.dgt_game.proofs.missing.half_move_without_one.Goals as goal

pub returns-then-is_some-2-clause-some : goal.returns-then-is_some-2-clause-some
returns-then-is_some-2-clause-some c = (
  (λ some. absurd (false≢true some)),
  (λ gone. absurd (two_found c.args.state.now (pieces_of c.args.picture.now) c.loop-at.at
      c.loop-at.found c.half_move_with-new.result
      (search (rules, c.is_some.ensures, c.if-is_some.true))
      (search (rules, c.is_some-then-is_some.ensures, c.if-is_some-2.true))
      c.loop-at.invariant (c.half_move_with-new.ensures c.loop-at-test.true) gone)),
)

pub loop-at-preserved : goal.loop-at-preserved
loop-at-preserved c =
    let both : ¬ (IsSome c.loop-at.found × IsSome c.half_move_with-new.result) =
    elim c.else-is_some.branch [
      | else-is_some-via-then-is_some+else-is_some-2 w ↦ λ h.
          search (rules, w.is_some-then-is_some.ensures, w.if-is_some-2.false, h)
      | else-is_some-via-else-is_some w ↦ λ h.
          search (rules, c.is_some.ensures, w.if-is_some.false, h)
    ] in
    rw c.or-found.ensures (found_next c.args.state.now (pieces_of c.args.picture.now) c.loop-at.at
    c.loop-at.found c.half_move_with-new.result both c.loop-at.invariant
    (c.half_move_with-new.ensures c.loop-at-test.true))

pub returns-clause-some : goal.returns-clause-some
returns-clause-some c =
    let last : c.loop-at.at ≡ 64 = omega (arith, c.loop-at-test.false, c.loop-at.auto.at-end) in
    all_found c.args.state.now (pieces_of c.args.picture.now) c.loop-at.found
    (subst (λ n. Found c.args.state.now (pieces_of c.args.picture.now) n c.loop-at.found) last
    c.loop-at.invariant)
