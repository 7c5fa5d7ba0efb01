use Rattle.dgt_c.proofs.TextLemmas.{events_are_read, events_have_texts, nothing_has_no_text}
use Rattle.dgt_c.proofs.laws.event_texts.Goals as goal

pub returns-clause-text : goal.returns-clause-text
returns-clause-text c = events_have_texts

pub returns-clause-nothing : goal.returns-clause-nothing
returns-clause-nothing c = nothing_has_no_text

pub returns-clause-read : goal.returns-clause-read
returns-clause-read c = events_are_read
