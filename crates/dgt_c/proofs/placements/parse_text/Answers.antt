use Rattle.{std.proofs.Common.{rules, subst}, dgt_values.specs.Placement.{IsFirstBadOffset}, dgt_c.proofs.AsciiLemmas.{bad_behind, bad_in_prefix}}
use Rattle.dgt_c.proofs.placements.parse_text.Goals as goal

pub returns-in-Err : goal.returns-in-Err
returns-in-Err c =
    let prefix = c.ascii_prefix-prefix.ensures in
    bad_in_prefix c.args.text.now _ _ prefix.within prefix.there
    (subst (λ text. IsFirstBadOffset text c.in-Err.bad.at) prefix.prefix c.in-Err.ensures)

pub returns-in-Ok : goal.returns-in-Ok
returns-in-Ok c = search (rules, bad_behind)
