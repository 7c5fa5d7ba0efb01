use Rattle.dgt_ask.proofs.AskLemmas.{if_none, no_partial}
use Rattle.dgt_ask.proofs.asking.begins_no_command.Goals as goal

pub returns-in_default : goal.returns-in_default
returns-in_default c = (
  (λ yes. absurd cc),
  (λ none.
      let unfinished = if_none _ c.advance.ensures.none c.in_default.not-Some in
      absurd (no_partial c.args.byte none (rw c.new.ensures at unfinished.1))),
)
