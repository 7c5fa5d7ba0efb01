use Rattle.{std.proofs.Common.{rules}, dgt_decode.proofs.Cutting.{lead_all, lead_here}}
use Rattle.dgt_decode.proofs.plain.lead_length.Goals as goal

pub returns-then-byte-ge-TOP_BIT-clause-is_lead : goal.returns-then-byte-ge-TOP_BIT-clause-is_lead
returns-then-byte-ge-TOP_BIT-clause-is_lead c = search (rules, lead_here)

pub returns-clause-is_lead : goal.returns-clause-is_lead
returns-clause-is_lead c = search (rules, lead_all)
