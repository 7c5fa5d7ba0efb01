use Rattle.dgt_command.proofs.{DivisionLemmas.{held_is_partial}, ReaderLemmas.{kept_limit}}
use Rattle.dgt_command.proofs.framer.WordFramer.advance.Goals as goal

pub invariant_of-self : goal.invariant_of-self
invariant_of-self c =
    held_is_partial c.add_bytes-used.result.1 c.add_bytes-used.new.word
    c.add_bytes-used.ensures.partial

pub returns-clause-unfinished : goal.returns-clause-unfinished
returns-clause-unfinished c =
    held_is_partial c.add_bytes-used.result.1 c.add_bytes-used.new.word
    c.add_bytes-used.ensures.partial

pub returns-clause-limit : goal.returns-clause-limit
returns-clause-limit c =
    kept_limit c.add_bytes-used.result.1 c.add_bytes-used.new.word c.add_bytes-used.ensures.whole
    c.add_bytes-used.ensures.partial
