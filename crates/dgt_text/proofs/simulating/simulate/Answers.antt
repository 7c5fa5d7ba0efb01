use Rattle.dgt_text.{specs.Simulating.{ShowsPicture, plain_rules}, proofs.ScriptRuns.{simulated_pictures}}
use Rattle.dgt_text.proofs.simulating.simulate.Goals as goal

pub returns-clause-picture : goal.returns-clause-picture
returns-clause-picture g c =
    let last = c.play.new.world in
    simulated_pictures plain_rules g.R.Source g.W.Sink _ _ _ _ _ _ _ _ last (ShowsPicture last)
    c.closing_lines_agree.ensures
    (λ out ends x stands promised quiet.
    ends quiet (c.at_quiet_world.ensures.picture last x stands quiet promised))
    c.play.ensures.output
