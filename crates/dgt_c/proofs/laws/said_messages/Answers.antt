use Rattle.{std.proofs.Common.{sym, rules}, dgt_c.{proofs.EncodingLemmas.{message_kinds, said_apart}}}
use Rattle.dgt_c.proofs.laws.said_messages.Goals as goal

pub returns-clause-kinds : goal.returns-clause-kinds
returns-clause-kinds c = λ said body message p. rw p.0 (message_kinds message)

pub returns-clause-dump : goal.returns-clause-dump
returns-clause-dump c = λ said body pieces p. (p.0, sym p.1)

pub returns-clause-field : goal.returns-clause-field
returns-clause-field c = λ said body square piece p. (p.0, sym p.1.0, sym p.1.1)

pub returns-clause-times : goal.returns-clause-times
returns-clause-times c = λ said body times p. (p.0, p.1.2)

pub returns-clause-no_clock : goal.returns-clause-no_clock
returns-clause-no_clock c = λ said body absence p. (p.0, p.1.2)

pub returns-clause-serial : goal.returns-clause-serial
returns-clause-serial c = λ said body digits p. (p.0, sym p.1.1)

pub returns-clause-version : goal.returns-clause-version
returns-clause-version c = search rules

pub returns-clause-carried : goal.returns-clause-carried
returns-clause-carried c = search (rules, said_apart)

pub returns-clause-other : goal.returns-clause-other
returns-clause-other c = λ said body bytes code kind p. p.1.0 kind

pub returns-clause-range : goal.returns-clause-range
returns-clause-range c = λ said body message p. p.0
