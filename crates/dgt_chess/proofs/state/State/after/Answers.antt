use Rattle.{std.proofs.{Common.{sym}, Math.Logic.{∥∥₁_map}}, dgt_chess.proofs.Staying.{stays, stays_as}}
use Rattle.dgt_chess.proofs.state.State.after.Goals as goal

pub invariant_of-result : goal.invariant_of-result
invariant_of-result c =
    let state = c.args.self.now in
    record {
      possible = ∥∥₁_map state.possible (λ possible.
          stays_as _ _ _ _ _ _ _ _ _ _ (sym c.position_after.ensures) (sym c.other.ensures)
          (sym c.rights_after.ensures)
          (sym c.passed_after.ensures) (sym c.number_after.ensures)
          (stays state c.args.man c.args.a c.args.b c.args.promotion c.requires.a c.requires.b
          possible c.requires.legal));
    }
