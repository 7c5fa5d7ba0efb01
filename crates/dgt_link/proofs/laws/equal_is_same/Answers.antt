use Rattle.dgt_link.proofs.Equal.{equal_acts, equal_faulty_acts}
use Rattle.dgt_link.proofs.laws.equal_is_same.Goals as goal

pub returns-clause-act : goal.returns-clause-act
returns-clause-act c = equal_acts c.equal_is_same.ensures.clock c.equal_is_same-2.ensures.command

pub returns-clause-faulty_act : goal.returns-clause-faulty_act
returns-clause-faulty_act c =
    equal_faulty_acts (equal_acts c.equal_is_same.ensures.clock c.equal_is_same-2.ensures.command)
