use Rattle.std.proofs.Common.{◌≡◌, ◌∙◌, ◌+◌, ◌^◌, ◌<◌, ℕ, arith, refl, rules}
use Rattle.dgt_lines.proofs.laws.marks_after_three_turns.Goals as goal

-- the numbers of a count
few : (before : ℕ) → before ≡ 7 → before + 3 < 2 ^ 64
few before seven = omega (arith, seven)

pub returns-clause-all_read : goal.returns-clause-all_read
returns-clause-all_read g c a b d e run = run.in_turns.all_read

pub returns-clause-ended : goal.returns-clause-ended
returns-clause-ended g c a b d e run = run.in_turns.ended

pub returns-clause-not_ended : goal.returns-clause-not_ended
returns-clause-not_ended g c a b d e run = run.in_turns.not_ended refl ∙ run.goes_on

pub returns-clause-source_failed : goal.returns-clause-source_failed
returns-clause-source_failed g c a b d e run = run.in_turns.source_failed

pub returns-clause-source_stands : goal.returns-clause-source_stands
returns-clause-source_stands g c a b d e run = run.in_turns.source_failed ∙ run.source_stands

pub returns-clause-sink_failed : goal.returns-clause-sink_failed
returns-clause-sink_failed g c a b d e run = run.in_turns.sink_failed

pub returns-clause-sink_stands : goal.returns-clause-sink_stands
returns-clause-sink_stands g c a b d e run = run.in_turns.sink_failed ∙ run.sink_stands

pub returns-clause-source_in_time : goal.returns-clause-source_in_time
returns-clause-source_in_time g c a b d e r run =
    run.in_turns.source_in_time run.source_stands run.goes_on ∙ run.source_in_time

pub returns-clause-sink_in_time : goal.returns-clause-sink_in_time
returns-clause-sink_in_time g c a b d e r run =
    run.in_turns.sink_in_time run.sink_stands ∙ run.sink_in_time

pub returns-clause-reads : goal.returns-clause-reads
returns-clause-reads g c a b d e r run = search (rules, few)

pub returns-clause-all_reads : goal.returns-clause-all_reads
returns-clause-all_reads g c a b d e run = search (rules, few)

pub returns-clause-flushed : goal.returns-clause-flushed
returns-clause-flushed g c a b d e run = run.in_turns.flushed run.flushed (λ same. cc)
