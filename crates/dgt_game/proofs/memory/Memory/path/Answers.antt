use Rattle.dgt_game.{proofs.{Pictures.{read_at}, Chains.{before_later, is_inside, is_within, get_step, path_first}}, specs.{declared.node.Node.{Node}, Memory.{steps, IsBefore, step_at}}}
use Rattle.{dgt_game.{specs.declared.node.Place.{Place}, proofs.Sure.{marked_first}}, std.proofs.{lemmas.Option.{slice_get_within}, Common.{rules, ◌≡◌, ◌+◌, ◌-◌, arith, length, ◌∷◌, ◌∙◌, ap, sym}}}
use Rattle.std.{proofs.{Common.{subst, ℕ, Some}, lemmas.List.{length-map}}, specs.Prelude.{slice_get}}
use Rattle.dgt_game.proofs.memory.Memory.path.Goals as goal

pub loop-at-preserved : goal.loop-at-preserved
loop-at-preserved c =
    let m = c.args.self.now in
    let kept = steps m.line.items in
    let seen = steps m.seen.items in
    let k = c.in-Seen.k in
    let node = c.index-deref-k.result in
    let path = c.loop-at.path.items in
    let before = c.loop-at.invariant.0 in
    let new : c.insert.new.self.items ≡ node ∷ path = c.insert.ensures.items in
    let at : slice_get m.seen.items k ≡ Some node = read_at m.seen.items k node (omega
    (arith, c.if-k-len.false, c.len.ensures.value)) (rw c.deref.ensures.0 at c.index-deref-k.is) in
    let step : slice_get seen k ≡ Some node.step = get_step m.seen.items k node at in
    let here : step_at kept seen c.loop-at.place ≡ slice_get seen k =
    ap (λ (p : Place). step_at kept seen p) c.in-Seen.is in (
      (
        (λ shown line h. rw new (path_first shown kept seen (steps path) k node.step step h.grows
            (rw here at (before.0 shown line h)))),
        rw new (rw (here ∙ step) at before.1),
        c.insert.ensures.len ∙ ap (λ (n : ℕ). n + 1) before.2,
        (λ rooted within.
            let later = subst (IsBefore (length kept) (c.args.k + 1 - c.loop-at._at)) c.in-Seen.is
            (before.3 rooted within) in
            before_later (length kept) k _ node.step.parent (omega (arith, later))
            (rooted k node.step step)),
        (λ none. absurd (omega (arith, none))),
        (λ some. is_inside c.args.k (length seen) c.loop-at._at k
            (λ none. sym c.in-Seen.is ∙ before.4 none) before.5
            (slice_get_within seen k node.step step)),
      ),
      (λ sure marked. rw new (marked_first sure node path (marked k node at)
          (c.loop-at.invariant.1 sure marked))),
    )

pub returns-clause-start : goal.returns-clause-start
returns-clause-start c = λ rooted found.
    let seen = c.args.self.now.seen.items in
    let len : length (steps seen) ≡ length seen = length-map seen (λ (n : Node). n.step) in
    let last : c.loop-at._at ≡ length seen = search rules in
    let within = is_within c.args.k (length (steps seen)) c.loop-at._at c.loop-at.place
    c.loop-at.invariant.0.4 c.loop-at.invariant.0.5 found in
    before_later _ (c.args.k + 1 - c.loop-at._at) 0 c.loop-at.place (omega
    (arith, within, len, last))
    (c.loop-at.invariant.0.3 rooted within)
