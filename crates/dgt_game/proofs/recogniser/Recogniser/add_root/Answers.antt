use Rattle.{std.{specs.Prelude.{⊤}, proofs.lemmas.Option.{MatchOption-at_some}}, dgt_game.{specs.Memory.{IsRoot}, proofs.Links.{begins}}}
use Rattle.dgt_game.proofs.recogniser.Recogniser.add_root.Goals as goal

pub returns-in-Some-clause-holds : goal.returns-in-Some-clause-holds
returns-in-Some-clause-holds c = λ shown line back unsaid root holds.
    let node = c.in-Some.node in
    let (begun, seen) = MatchOption-at_some ⊤ (λ node. IsRoot shown node) node c.in-Some.is root in
    c.push.ensures.holds shown line back unsaid (begins _ node.step begun) seen holds
