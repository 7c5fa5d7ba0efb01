use Rattle.{std.proofs.Common.{rules, refl, arith}, dgt_decode.proofs.Loops.{taken_none, one_byte, found_first, found_none, frames_found, frames_none, step_held, step_came}}
use Rattle.dgt_decode.proofs.Steps.{IsHeld-unfinished}
use Rattle.dgt_decode.proofs.framer.Framer.take_bytes.Goals as goal

pub loop-index-init : goal.loop-index-init
loop-index-init c = (
  taken_none _ _ (IsHeld-unfinished c.args.self.now),
  λ some. absurd (omega (arith, some)),
)

pub returns-in-Some : goal.returns-in-Some
returns-in-Some c =
    let taken = c.loop-index.invariant.0 in
    let step = one_byte c.loop-index.self c.args.bytes.now c.loop-index.index c.take_byte.new.self _
    c.loop-index-test.true c.in-Some.ensures in
    frames_found _ _ _ _ _ (found_first _ _ _ _ _ _ _ taken step (omega arith) refl) (omega arith)
    (step_held _ _ _ _ _ _ _ taken step) (λ e. c.in-Some.ensures.whole cc)
    (λ e. step_came _ _ _ _ _ _ _ taken step cc)
    (λ other. c.in-Some.ensures.unfinished (λ e. other cc))

pub loop-index-preserved : goal.loop-index-preserved
loop-index-preserved c = (
  found_none _ _ _ _ _ _ _ c.loop-index.invariant.0
      (one_byte _ _ _ _ _ c.loop-index-test.true c.in_default.ensures) refl,
  λ some. c.in_default.ensures.unfinished (λ e. absurd cc),
)

pub returns : goal.returns
returns c = search (rules, frames_none)
