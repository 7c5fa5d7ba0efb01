use Rattle.{std.proofs.Common.{rules}, dgt_message.proofs.{Headers.{same_length}, MessageIn.{message_in-encodes}}}
use Rattle.dgt_message.proofs.laws.encoded_once.Goals as goal

pub returns-clause-one_message : goal.returns-clause-one_message
returns-clause-one_message c = search (rules, message_in-encodes)

pub returns-clause-none_longer : goal.returns-clause-none_longer
returns-clause-none_longer c =
    λ bytes more first second h k. same_length bytes more _ _ h.header k.header
