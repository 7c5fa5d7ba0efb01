use Rattle.dgt_link.{specs.Machine.{after_moves}, proofs.Asking.{mode-step, run_promises}}
use Rattle.dgt_link.proofs.laws.what_stands_after.Goals as goal

pub returns-clause-step : goal.returns-clause-step
returns-clause-step c =
    λ act answer x after stands.
    (after_moves x stands.0, stands.2, mode-step x act answer stands.0 stands.1)

pub returns-clause-run : goal.returns-clause-run
returns-clause-run c =
    λ acts answers x after stands asked.
    (after_moves x stands.0, stands.2, run_promises x acts answers stands.0 stands.1 asked)

pub returns-clause-behind : goal.returns-clause-behind
returns-clause-behind c =
    λ act answer world x after stands.
    (stands.0, after_moves x stands.1, stands.3, mode-step x act answer stands.1 stands.2, stands.4)
