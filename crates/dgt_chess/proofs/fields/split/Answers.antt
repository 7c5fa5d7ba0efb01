use Rattle.std.proofs.{Common.{arith}, lemmas.Str.Pattern.{split_parts}}
use Rattle.dgt_chess.proofs.fields.split.Goals as goal

pub returns-in-Some-clause-no_space : goal.returns-in-Some-clause-no_space
returns-in-Some-clause-no_space c =
    let parts = split_parts 32 c.args.text.now c.split_once.result c.split_once.ensures.cases
    (omega arith) in
    let known = rw c.in-Some.is at parts in
    known.1

pub returns-in-None-clause-no_space : goal.returns-in-None-clause-no_space
returns-in-None-clause-no_space c =
    let parts = split_parts 32 c.args.text.now c.split_once.result c.split_once.ensures.cases
    (omega arith) in
    rw c.in-None.is at parts
