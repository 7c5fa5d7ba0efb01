use Rattle.{std.proofs.Common.{rules}, dgt_decode.proofs.Verdicts.{verdict-short, verdict-bad, verdict-waits, verdict-whole}}
use Rattle.dgt_decode.proofs.plain.segment_verdict.Goals as goal

pub returns-then-segment-lt-HEADER-clause-value : goal.returns-then-segment-lt-HEADER-clause-value
returns-then-segment-lt-HEADER-clause-value c = search (rules, verdict-short)

pub returns-then-total-lt-HEADER-clause-value : goal.returns-then-total-lt-HEADER-clause-value
returns-then-total-lt-HEADER-clause-value c = search (rules, verdict-bad)

pub returns-then-segment-total-clause-value : goal.returns-then-segment-total-clause-value
returns-then-segment-total-clause-value c = search (rules, verdict-waits)

pub returns-clause-value : goal.returns-clause-value
returns-clause-value c = search (rules, verdict-whole)
