use Rattle.std.{proofs.{lemmas.Option.{slice_get_within, none-some}, Common.{rules, ◌≡◌, ◌≢◌, ◌<◌, arith, inl, inr, refl, sym, subst, ℕ, [], Option, None, Some, length}}, specs.Prelude.{slice_get}}
use Rattle.dgt_game.{specs.{declared.node.{Place.{Place}, Step.{Step}}, Memory.{IsBefore, step_at, steps, tip}}, proofs.Chains.{not_seen, steps_length, chain_any, some_at, steps_some, tip_any}}
use Rattle.dgt_game.proofs.{Chains.{tip_there}, Waiting.{tip_some}, memory.Memory.way_to.Goals.{Joined-place, in-Seen, in_default, in_default-start-via-in-Line+else-base-len}}
use Rattle.dgt_game.proofs.memory.Memory.way_to.Goals.{in_default-start-via-in-Nowhere+else-not-is_empty, in_default-start-via-in_default-start}
use Rattle.dgt_game.proofs.memory.Memory.way_to.Goals as goal

pub returns-else-is_open-clause-chain : goal.returns-else-is_open-clause-chain
returns-else-is_open-clause-chain c = λ shown line h.
    chain_any shown (slice_get (steps c.args.self.now.line.items) 0) (steps
    c.match-place.path.0.items) (search (rules, h))

pub returns-else-is_open-clause-tip : goal.returns-else-is_open-clause-tip
returns-else-is_open-clause-tip c = λ step h.
    tip_any (slice_get (steps c.args.self.now.line.items) 0) (steps c.match-place.path.0.items)
    step (search (rules, h))

pub returns-else-is_open-clause-there : goal.returns-else-is_open-clause-there
returns-else-is_open-clause-there c = λ step e.
    tip_some (slice_get (steps c.args.self.now.line.items) 0) (steps c.match-place.path.0.items)
    step (search (rules, e))

pub returns-in-Line-clause-some : goal.returns-in-Line-clause-some
returns-in-Line-clause-some c =
    tip_there (slice_get (steps c.args.self.now.line.items) c.in-Line.base) (steps
    c.match-place.path.0.items) (inl (some_at _ c.in-Line.base (search (rules, steps_length))))

pub returns-in-Line-clause-near : goal.returns-in-Line-clause-near
returns-in-Line-clause-near c = λ step rooted e. elim c.match-place.branch [
  | in-Seen w ↦ search (rules, rooted)
  | in_default w ↦ inr (search rules)
]

pub returns-in-Line-clause-news : goal.returns-in-Line-clause-news
returns-in-Line-clause-news c = λ step e other. elim c.match-place.branch [
  | in-Seen w ↦ inr (search (rules, e, slice_get_within))
  | in_default w ↦ inl (search (rules, other))
]

pub returns-then-is_open-clause-some : goal.returns-then-is_open-clause-some
returns-then-is_open-clause-some c =
    tip_there (slice_get (steps c.args.self.now.line.items) 0) (steps c.with_last.result.items)
    (inr (steps_some _ (c.with_last.ensures.some (search rules))))

pub returns-else-is_open-clause-some : goal.returns-else-is_open-clause-some
returns-else-is_open-clause-some c =
    tip_there (slice_get (steps c.args.self.now.line.items) 0) (steps c.match-place.path.0.items)
    (inr (steps_some _ (search rules)))

pub returns-in_default-start-clause-found : goal.returns-in_default-start-clause-found
returns-in_default-start-clause-found c = λ step rooted e.
    let lines = steps c.args.self.now.line.items in
    let seen = steps c.args.self.now.seen.items in
    let path = c.match-place.path in
    let facts : ((base : ℕ) → path.1 ≡ Place.Line base → base < length lines)
    × (path.1 ≡ Place.Nowhere → path.0.items ≢ []) × ((j : ℕ) → path.1 ≢ Place.Seen j) =
    elim c.match-place.branch [
      | in-Seen w ↦
          let within = slice_get_within seen w.in-Seen.k step (rw w.in-Seen.is at e) in
          let before = w.path.ensures.start rooted (inl within) in
          rw w.path-is (
            (λ base at. (subst (IsBefore (length lines) 0) at before).0),
            (λ at. w.path.ensures.some within),
            not_seen (length lines) w.path.result.1 before,
          )
      | in_default w ↦ rw w.path-is (
        (λ base is. slice_get_within lines base step (rw is at e)),
        (λ is. absurd (none-some step (rw is at e))),
        w.in_default.not-Seen,
      )
    ] in
    elim c.in_default-start.branch [
      | in_default-start-via-in-Line+else-base-len w ↦
          let within = facts.0 w.in-Line.base w.in-Line.is in
          absurd (omega (
            arith,
            within,
            w.if-base-len.false,
            w.len.ensures.value,
            steps_length
                c.args.self.now.line.items,
          ))
      | in_default-start-via-in-Nowhere+else-not-is_empty w ↦
          absurd (facts.1 w.in-Nowhere.is (search rules))
      | in_default-start-via-in_default-start w ↦
          absurd (facts.2 w.in_default-start.field-0 w.in_default-start.is)
    ]

-- what a path leads to is at the place
ends_at : (last at : Option Step) → last ≡ at → last ≢ None → (step : Step)
    × (at ≡ Some step) × (last ≡ Some step)
ends_at None at e some = absurd (some refl)
ends_at (Some step) at e some = (step, sym e, refl)

-- the path leads to the place
leads : (c : Joined-place)
    → tip (step_at (steps c.args.self.now.line.items) (steps c.args.self.now.seen.items)
    c.match-place.path.1) (steps c.match-place.path.0.items)
    ≡ step_at (steps c.args.self.now.line.items) (steps c.args.self.now.seen.items) c.args.place
leads c = elim c.match-place.branch [
  | in-Seen w ↦ rw (w.path-is, w.in-Seen.is) w.path.ensures.tip
  | in_default w ↦ rw (w.path-is, w.new.ensures) refl
]

pub returns-in-Line-clause-ends : goal.returns-in-Line-clause-ends
returns-in-Line-clause-ends c =
    let same = leads (goal.at.returns-in-Line-clause-ends c).Joined-place in
    ends_at _ _ (rw c.in-Line.is at same) (returns-in-Line-clause-some c)

pub returns-then-is_open-clause-ends : goal.returns-then-is_open-clause-ends
returns-then-is_open-clause-ends c =
    let same = leads (goal.at.returns-then-is_open-clause-ends c).Joined-place in
    let found = ends_at _ _ (rw c.in-Nowhere.is at same)
    (tip_there None (steps c.match-place.path.0.items) (inr (steps_some _ (search rules)))) in
    (found.0, found.1, c.with_last.ensures.there found.0 found.2)

pub returns-else-is_open-clause-ends : goal.returns-else-is_open-clause-ends
returns-else-is_open-clause-ends c =
    let first = slice_get (steps c.args.self.now.line.items) 0 in
    let path = steps c.match-place.path.0.items in
    let same = leads (goal.at.returns-else-is_open-clause-ends c).Joined-place in
    let found = ends_at _ _ (rw c.in-Nowhere.is at same)
    (tip_there None path (inr (steps_some _ (search rules)))) in
    (found.0, found.1, tip_some first path found.0 found.2)
