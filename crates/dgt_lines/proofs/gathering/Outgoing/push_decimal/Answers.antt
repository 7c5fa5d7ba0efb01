use Rattle.{std.proofs.{Common.{rules, ◌-◌, ◌<◌, ◌⊎◌, inl, inr, arith, append_assoc}, lemmas.{Fmt.{decimal_digit}, List.{drop-set, take_rest}}}, dgt_lines.proofs.DecimalLemmas.{prefix, prefix-all}}
use Rattle.dgt_lines.proofs.{DecimalLemmas.{prefix-last, none_below, tenth_below}, TextLemmas.{padded_one}, gathering.Outgoing.push_decimal.Goals.{then-rest-gt0, else-rest-gt0+then-at-width}}
use Rattle.dgt_lines.proofs.gathering.Outgoing.push_decimal.Goals as goal

pub returns-then-width-eq1-clause-bytes : goal.returns-then-width-eq1-clause-bytes
returns-then-width-eq1-clause-bytes g c = search (rules, padded_one, decimal_digit)

pub loop-rest-preserved : goal.loop-rest-preserved
loop-rest-preserved g c =
    let at = c.loop-rest.at in
    let rest = c.loop-rest.rest in
    let width = c.args.width - (20 - at) in
    let more : (0 < rest) ⊎ (0 < width) =
    elim c.if-rest-gt0.branch
    [ then-rest-gt0 w ↦ inl (omega arith) | else-rest-gt0+then-at-width w ↦ inr (omega arith) ] in
    let some : 0 < at = search (rules, then-rest-gt0, none_below, else-rest-gt0+then-at-width) in
    search (rules, tenth_below, prefix-last, append_assoc, prefix, drop-set)

pub returns-clause-bytes : goal.returns-clause-bytes
returns-clause-bytes g c = search (rules, prefix-all, prefix, take_rest)
