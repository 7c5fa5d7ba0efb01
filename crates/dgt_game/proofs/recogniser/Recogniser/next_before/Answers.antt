use Rattle.{std.proofs.Common.{◌∙◌, ap}, dgt_game.specs.{declared.recogniser.Lost.{Lost}, Waiting.{has_notice}}}
use Rattle.dgt_game.proofs.recogniser.Recogniser.next_before.Goals as goal

pub returns-in-None-clause-quiet : goal.returns-in-None-clause-quiet
returns-in-None-clause-quiet c =
    ap (λ (l : Lost). has_notice l) c.end_before_next.ensures.notice ∙ c.next_notice.ensures.quiet

pub returns-in-None-clause-found : goal.returns-in-None-clause-found
returns-in-None-clause-found c = λ h.
    c.end_before_next.ensures.found (c.next_notice.ensures.found h)
