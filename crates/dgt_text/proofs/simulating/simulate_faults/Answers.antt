use Rattle.dgt_text.{specs.Simulating.{ShowsHealed, faulty_rules}, proofs.ScriptRuns.{simulated_pictures}}
use Rattle.dgt_text.proofs.simulating.simulate_faults.Goals as goal

pub returns-clause-picture : goal.returns-clause-picture
returns-clause-picture g c =
    let last = c.play.new.world in
    simulated_pictures faulty_rules g.R.Source g.W.Sink _ _ _ _ _ _ _ _ last (ShowsHealed last)
    c.closing_lines_agree.ensures
    (λ out ends promised quiet.
    ends quiet (c.promised_worlds_heal.ensures.picture last promised quiet)) c.play.ensures.output
