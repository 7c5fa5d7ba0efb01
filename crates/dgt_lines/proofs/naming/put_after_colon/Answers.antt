use Rattle.{std.proofs.Common.{◌++◌, codes, refl}, dgt_lines.proofs.GatherLemmas.{gathers_first, gathers_then}}
use Rattle.dgt_lines.proofs.naming.put_after_colon.Goals as goal

pub returns-in_err-add-clause-output : goal.returns-in_err-add-clause-output
returns-in_err-add-clause-output g c =
    gathers_first _ _ _ _ _ (codes ": ") c.args.name.now (codes ": " ++ c.args.name.now) _ _ refl
    c.from_residual.ensures.1 c.in_err-add.ensures.output

pub returns-clause-output : goal.returns-clause-output
returns-clause-output g c =
    gathers_then _ _ _ _ _ _ _ (codes ": ") c.args.name.now _ c.in_ok-add.ensures.output
    c.add-2.ensures.output
