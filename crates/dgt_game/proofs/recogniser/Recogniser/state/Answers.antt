use Rattle.{std.{proofs.{Common.{◌≡◌, Some, length, refl}, lemmas.Option.{slice_get_read}}, specs.Prelude.{option_map, slice_get}}, dgt_game.proofs.{Chains.{get_step}, Known.{ends_in}}}
use Rattle.{std.proofs.Common.{ap, sym}, dgt_game.specs.declared.node.Step.{Step}}
use Rattle.dgt_game.proofs.recogniser.Recogniser.state.Goals as goal

pub returns-clause-last : goal.returns-clause-last
returns-clause-last c =
    let self = c.args.self.now in
    let node = c.in_ok-node.node.now in
    let look = c.in_ok-node.ensures.lookup in
    let line = c.deref.result.now in
    let at : slice_get self.memory.line.items 0 ≡ Some node =
    rw c.deref.ensures.0 at (slice_get_read line (length line) 0 node refl look.3.0 look.1) in
    sym (ap (option_map (λ (step : Step). step.state)) (get_step self.memory.line.items 0 node at))

pub returns-clause-line : goal.returns-clause-line
returns-clause-line c = λ shown line knows.
    rw (returns-clause-last c) (ends_in c.args.self.now shown line knows)
