use Rattle.{std.{proofs.Common.{◌<◌, ℕ, arith, refl, subst}, specs.Prelude.{Option}}, dgt_chess.specs.San.{FitsFrom, FitsSeveral}}
use Rattle.dgt_chess.proofs.state.State.fitting_from.Goals as goal

pub returns-in-Some : goal.returns-in-Some
unfolding FitsSeveral
returns-in-Some c =
    let r = c.args.r in
    let P : Option ℕ → Type 0 =
    λ found. FitsFrom c.args.self.now r.b r.promotion c.args.text.now c.loop-a.a found in
    let first = subst P c.in-Some.is c.loop-a.invariant in
    let below : c.in-Some.field-0 < c.loop-a.a = first.0 in (
      refl,
      (
        c.in-Some.field-0,
        c.loop-a.a,
        omega arith,
        omega arith,
        c.requires.b,
        omega arith,
        first.1,
        c.is_fitting.ensures.0 c.if-is_fitting.true,
      ),
    )
