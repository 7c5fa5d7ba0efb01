use Rattle.{std.{proofs.{Common.{◌≡◌, ◌∙◌, ◌++◌, ap, List}, lemmas.List.{map-append}}, specs.Prelude.{slice_get}}, dgt_game.specs.{declared.node.Node.{Node}, Memory.{steps}}}
use Rattle.dgt_game.proofs.{Chains.{chain_any, chain_joined, tip_any, tip_joined}, Waiting.{some_joined}}
use Rattle.dgt_game.proofs.memory.Memory.with_last.Goals as goal

joined : (first path new other : List Node) → new ≡ first ++ other → other ≡ path
    → steps new ≡ steps first ++ steps path
joined first path new other e same =
    ap steps (e ∙ ap (λ (xs : List Node). first ++ xs) same)
    ∙ map-append (λ (n : Node). n.step) first path

pub returns-in_default-clause-chain : goal.returns-in_default-clause-chain
returns-in_default-clause-chain c = λ shown line h chain. chain_any shown _ _ chain

pub returns-in_default-clause-tip : goal.returns-in_default-clause-tip
returns-in_default-clause-tip c = λ step h. tip_any _ (steps c.args.path.items) step h

pub returns-in-Err-clause-chain : goal.returns-in-Err-clause-chain
returns-in-Err-clause-chain c = λ shown line h chain. chain_any shown _ _ chain

pub returns-in-Ok-clause-chain : goal.returns-in-Ok-clause-chain
returns-in-Ok-clause-chain c = λ shown line h chain.
    let first = c.in-Some-last_path.nodes.items in
    rw (joined first c.args.path.items _ _ c.in-Ok.ensures.ok c.as_slice.ensures.value)
    (chain_joined shown _ (steps first) (steps c.args.path.items)
    (c.in-Some-last_path.ensures shown line h) chain)

pub returns-in-Ok-clause-tip : goal.returns-in-Ok-clause-tip
returns-in-Ok-clause-tip c = λ step h.
    let first = c.in-Some-last_path.nodes.items in
    rw (joined first c.args.path.items _ _ c.in-Ok.ensures.ok c.as_slice.ensures.value)
    (tip_joined (slice_get (steps c.args.self.now.line.items) 0) (steps first)
    (steps c.args.path.items) step h)

pub returns-in-Ok-clause-there : goal.returns-in-Ok-clause-there
returns-in-Ok-clause-there c = λ step e.
    let first = c.in-Some-last_path.nodes.items in
    rw (joined first c.args.path.items _ _ c.in-Ok.ensures.ok c.as_slice.ensures.value)
    (some_joined (slice_get (steps c.args.self.now.line.items) 0) (steps first)
    (steps c.args.path.items) step e)
