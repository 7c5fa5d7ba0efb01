use Rattle.{std.proofs.Common.{rules}, dgt_ask.proofs.AskLemmas.{writes_id}}
use Rattle.dgt_ask.proofs.details.own_word.Goals as goal

pub returns : goal.returns
returns c =
    writes_id c.id_word.result.now c.args.id c.in_ok-with_number.field-0 c.id_word.ensures
    (search rules)
