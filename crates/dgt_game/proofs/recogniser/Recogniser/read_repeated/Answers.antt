use Rattle.std.{proofs.Common.{rules, arith, ◌≡◌, ◌≤◌, ℕ, Option, subst}, specs.Prelude.{MatchOption}}
use Rattle.dgt_game.specs.{declared.node.Place.{Place}, Reading.{ShowsAt}}
use Rattle.dgt_game.proofs.recogniser.Recogniser.read_repeated.Goals as goal

pub returns-in_err-earlier-clause-reads : goal.returns-in_err-earlier-clause-reads
returns-in_err-earlier-clause-reads c = λ live ((k, two, here), other, line).
    absurd (subst (λ (o : Option ℕ). MatchOption o ⊥ (λ j. j ≤ k)) c.in_err-earlier.was
    (c.earlier.ensures.last k live (omega (arith, two)) here))

pub returns-then-branch-lt2-clause-reads : goal.returns-then-branch-lt2-clause-reads
returns-then-branch-lt2-clause-reads c = λ live (before, other, line).
    let one : c.in_ok-earlier.field-0 ≡ 1 =
    omega (arith, c.in_ok-earlier.ensures.first, c.if-branch-lt2.true) in
    absurd (other (subst (λ (j : ℕ). ShowsAt c.args.self.now.memory c.args.view.now (Place.Line j))
    one c.in_ok-earlier.ensures.at))
