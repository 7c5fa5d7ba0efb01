use Rattle.dgt_c.proofs.OnceLemmas.{messages_are_encoded, messages_are_read, nothing_is_encoded, one_encoding}
use Rattle.dgt_c.proofs.laws.one_encoding.Goals as goal

pub returns-clause-bytes : goal.returns-clause-bytes
returns-clause-bytes c = one_encoding

pub returns-clause-nothing : goal.returns-clause-nothing
returns-clause-nothing c = nothing_is_encoded

pub returns-clause-message : goal.returns-clause-message
returns-clause-message c = messages_are_encoded

pub returns-clause-read : goal.returns-clause-read
returns-clause-read c = messages_are_read
