use Rattle.{std.proofs.Common.{rules}, dgt_ask.proofs.AskLemmas.{half}}
use Rattle.dgt_ask.proofs.details.decoded.Goals as goal

pub returns-in_err-bytes-clause-bytes : goal.returns-in_err-bytes-clause-bytes
returns-in_err-bytes-clause-bytes c = search (rules, half)
