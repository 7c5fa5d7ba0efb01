use Rattle.{std.proofs.{Common.{◌≡◌, ◌∙◌, ◌+◌, ◌<◌, ◌++◌, ◌∷◌, [], arith, ap, ℕ, drop, length}, lemmas.List.{length-map}}, dgt_game.specs.{declared.node.Node.{Node}, Memory.{Links, step_at, steps}}}
use Rattle.dgt_game.{specs.Memory.{tip}, proofs.{Chains.{moved, next_chained, next_tip, rooted_push, steps_drop, steps_push}, Pictures.{read_at}, Sure.{marked_push}}}
use Rattle.dgt_game.proofs.memory.chained.Goals as goal

pub loop-k-preserved : goal.loop-k-preserved
loop-k-preserved c =
    let path = c.args.path.now.items in
    let old = steps c.loop-k.nodes.items in
    let k = c.loop-k.k in
    let parent = c.loop-k.parent in
    let node = c.index-deref-k.result in
    let step = node.step in
    let rest = steps (drop (k + 1) path) in
    let new : steps c.push.new.self.items ≡ old ++ moved step parent ∷ [] =
    ap steps c.push.ensures.items ∙ steps_push c.loop-k.nodes.items _ in
    let len : length old ≡ k =
    length-map c.loop-k.nodes.items (λ (n : Node). n.step) ∙ c.loop-k.invariant.0 in
    let within : k < length path = omega (arith, c.loop-k-test.true, c.len-k-end.ensures.value) in
    let cut : steps (drop k path) ≡ step ∷ rest =
    steps_drop path k node within
    (rw c.deref.ensures.0 at c.index-deref-k.is) in (
      c.push.ensures.len ∙ ap (λ (n : ℕ). n + 1) c.loop-k.invariant.0,
      (λ shown kept chain.
          let at = c.loop-k.invariant.1 shown kept chain in
          rw new (next_chained shown kept old rest step parent k len at.0 (rw cut at at.1))),
      (λ kept next h.
          let at : Links (tip (step_at kept old parent) (step ∷ rest)) next =
          rw cut at (c.loop-k.invariant.2 kept next h) in
          rw new (next_tip kept old rest step next parent k len at)),
      (λ lines start.
          let at = c.loop-k.invariant.3 lines start in (
            rw new (rooted_push lines old (moved step parent) at.0 (rw len at.1)),
            omega arith,
          )),
      (λ sure marked. rw c.push.ensures.items
          (marked_push sure c.loop-k.nodes.items _ (c.loop-k.invariant.4 sure marked) (marked k node
          (read_at path k node within (rw c.deref.ensures.0 at c.index-deref-k.is))))),
    )

pub returns-clause-grows : goal.returns-clause-grows
returns-clause-grows c = λ shown kept chain. (c.loop-k.invariant.1 shown kept chain).0

pub returns-clause-rooted : goal.returns-clause-rooted
returns-clause-rooted c = λ lines start. (c.loop-k.invariant.3 lines start).0
