use Rattle.{std.proofs.Common.{rules}, dgt_lines.proofs.GatherLemmas.{gathers_through, stopped_longer}}
use Rattle.dgt_lines.proofs.gathering.Outgoing.add.Goals as goal

pub returns-in_err-write_out-clause-output : goal.returns-in_err-write_out-clause-output
returns-in_err-write_out-clause-output g c = search (rules, stopped_longer)

pub returns-then-bytes-room-2-clause-output : goal.returns-then-bytes-room-2-clause-output
returns-then-bytes-room-2-clause-output g c = search (rules, gathers_through)
