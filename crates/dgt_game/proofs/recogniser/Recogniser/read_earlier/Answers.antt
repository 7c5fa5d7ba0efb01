use Rattle.std.{proofs.Common.{◌≤◌, ℕ, Option, subst}, specs.Prelude.{MatchOption}}
use Rattle.dgt_game.proofs.recogniser.Recogniser.read_earlier.Goals as goal

pub returns-in_err-k-clause-far : goal.returns-in_err-k-clause-far
returns-in_err-k-clause-far c = λ k calm live some here.
    absurd (subst (λ (o : Option ℕ). MatchOption o ⊥ (λ j. j ≤ k)) c.in_err-k.was
    (c.earlier.ensures.last k live some here))
