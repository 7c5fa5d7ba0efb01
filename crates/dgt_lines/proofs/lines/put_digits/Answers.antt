use Rattle.{std.proofs.Common.{arith, drop, take, rules}, hex.specs.Hex.{encode_lower}, dgt_lines.proofs.{GatherLemmas.{gathered_none, gathered_then, gathers_stopped}, HexLemmas.{encode_lower-nil}}}
use Rattle.dgt_lines.proofs.HexLemmas.{encode_lower-upto, encode_lower-around}
use Rattle.dgt_lines.proofs.lines.put_digits.Goals as goal

pub loop-at-init : goal.loop-at-init
loop-at-init g c = search (rules, encode_lower-nil, gathered_none)

pub returns-in_err-put_part-clause-output : goal.returns-in_err-put_part-clause-output
returns-in_err-put_part-clause-output g c =
    gathers_stopped _ _ _ _ _ _ _ (encode_lower (take c.loop-at.at c.args.bytes.now)) _
    (encode_lower (drop c.min-end.result c.args.bytes.now)) _ _ _
    c.loop-at.invariant.output
    (encode_lower-around c.args.bytes.now c.loop-at.at c.min-end.result
    (omega (arith, c.min-end.ensures))) c.from_residual.ensures.1 c.in_err-put_part.ensures.output

pub loop-at-preserved : goal.loop-at-preserved
loop-at-preserved g c =
    let step =
    gathered_then _ _ _ _ _ _ _ (encode_lower (take c.loop-at.at c.args.bytes.now)) _
    c.loop-at.invariant.output c.in_ok-put_part.ensures.output in
    search (rules, encode_lower-upto)
