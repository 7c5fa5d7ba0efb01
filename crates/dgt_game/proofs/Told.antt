-- The line, as it is reported.
use Rattle.std.proofs.{Common.{rules, ◌≡◌, ◌≢◌, ◌<◌, ◌-◌, ◌⊎◌, refl, subst, inl, inr, arith, ℕ, Bool, zero, suc, length, take, List, [], ◌∷◌, Option, Some, None}, lemmas.Grind.{common_steps}}
use Rattle.{std.specs.Prelude.{⊤, slice_get, MatchOption}, dgt_values.specs.declared.pieces.Piece.{Piece}, dgt_chess.specs.declared.state.State.{State}, dgt_game.specs.declared.event.Event.{Event}}
use Rattle.dgt_game.specs.{declared.node.{Node.{Node}, Step.{Step}, Way.{Way}, Place.{Place}}, Told.{Told, IsShown, Leads}, Memory.{By, Chain, Grows, AreLast, IsKept, IsRooted, IsSeen, Links}}
use Rattle.dgt_game.specs.Memory.{event_by, event_of, halves_of, line_after, line_by, step_at, steps, tip, told_of}

pub kept_take : (nodes : List Node) (line : List Told) (n : ℕ) → AreLast (steps nodes) line
    → AreLast (steps (take n nodes)) line
kept_take nodes line zero h = tt
kept_take [] line (suc n) h = tt
kept_take (node ∷ nodes) [] (suc n) h = h
kept_take (node ∷ nodes) (told ∷ line) (suc n) h = (h.0, kept_take nodes line n h.1)

-- what follows nothing begins a line, and so it follows anything
pub links_any : (before : Option Step) (step : Step) → Links None step → Links before step
unfolding Links
links_any before step h = search rules

pub links_first : (first step : Step) → Links (Some first) step → (step.way ≡ Way.Begun)
    ⊎ ((first.is_turned ≡ step.is_turned) × By first.state step.way step.state)
unfolding Links
links_first first step h = search rules

leads_same : (first : Step) (line : List Told) (way : Way) (state : State)
    → By first.state way state
    → Leads (told_of first ∷ line) (event_by way state first.is_turned) (line_by way (record {
      state = state;
      halves = halves_of way;
      is_turned = first.is_turned;
    }) (told_of first ∷ line))
leads_same first line Way.Begun state by = absurd by
leads_same first line (Way.Made one) state by = (state, by, refl)
leads_same first line (Way.Unseen moves) state by = (state, by.0, by.1, refl)
leads_same first line (Way.Gap count) state by = (by, refl)

leads_first : (first step : Step) (line : List Told) → Links (Some first) step
    → Leads (told_of first ∷ line) (event_of step) (line_after step (told_of first ∷ line))
leads_first first step line h = search (rules, links_first, leads_same)

pub leads : (kept : List Step) (line : List Told) (step : Step) → IsKept kept line
    → Links (slice_get kept 0) step → Leads line (event_of step) (line_after step line)
unfolding Links
leads [] line step kept h = search rules
leads (first ∷ rest) [] step kept h = absurd kept.0
leads (first ∷ rest) (told ∷ line) step kept h = search (rules, leads_first)

pub makes : (shown : List (List Piece)) (line : List Told) (kept new rest : List Step) (step :
    Step) → IsKept kept line → IsShown shown line → Chain shown (slice_get kept 0) (step ∷ rest)
    → slice_get new 0 ≡ Some step → Leads line (event_of step) (line_after step line)
    × IsShown shown (line_after step line) × Chain shown (slice_get new 0) rest
makes shown line kept new rest step is_kept is_shown chain first = search (rules, leads)

-- a state further back stands before the last one
takes_back : (shown : List (List Piece)) (line : List Told) (first : Node) (kept : List Node) (back
    : ℕ) (stays : Bool) → back ≢ 0 → (back ≡ 0) ⊎ (back < length (steps (first ∷ kept)))
    → IsKept (steps (first ∷ kept)) line → IsShown shown line → (new : List Told)
    × Leads line (Event.Back (halves_of first.step.way) stays) new × IsShown shown new
    × IsKept (steps kept) new × ((back - 1 ≡ 0) ⊎ (back - 1 < length (steps kept)))
    × (slice_get (steps (first ∷ kept)) back ≡ slice_get (steps kept) (back - 1))
takes_back shown line first kept zero stays some within is_kept is_shown = absurd (some refl)
takes_back shown [] first kept (suc k) stays some within is_kept is_shown = absurd is_kept.0
takes_back shown (told ∷ line) first [] (suc k) stays some within is_kept is_shown =
    absurd (elim within [ inl e ↦ omega arith | inr l ↦ omega arith ])
takes_back shown (told ∷ []) first (second ∷ kept) (suc k) stays some within is_kept is_shown =
    absurd is_kept.0.1
takes_back shown (told ∷ before ∷ line) first (second ∷ kept) (suc k) stays some within is_kept
    is_shown = search rules

pub taken_back : (shown : List (List Piece)) (line : List Told) (nodes new : List Node) (back
    halves : ℕ) (stays : Bool)
    → ((first : Node) (rest : List Node) → nodes ≡ first ∷ rest → new ≡ rest)
    → ((first : Node) (rest : List Node) → nodes ≡ first ∷ rest
    → halves ≡ halves_of first.step.way) → back ≢ 0 → (back ≡ 0) ⊎ (back < length (steps nodes))
    → IsKept (steps nodes) line → IsShown shown line → (told : List Told)
    × Leads line (Event.Back halves stays) told × IsShown shown told × IsKept (steps new) told
    × ((back - 1 ≡ 0) ⊎ (back - 1 < length (steps new)))
    × (slice_get (steps nodes) back ≡ slice_get (steps new) (back - 1))
taken_back shown line [] new back halves stays drops counts some within is_kept is_shown =
    absurd (elim within [ inl e ↦ some e | inr l ↦ omega arith ])
taken_back shown line (first ∷ rest) new back halves stays drops counts some within is_kept
    is_shown =
    let e : new ≡ rest = drops first rest refl in
    let n : halves ≡ halves_of first.step.way = counts first rest refl in
    rw e (rw n (takes_back shown line first rest back stays some within is_kept is_shown))

pub nothing_seen : (seen : List Step) (unsaid rest : List Node) (node : Node) (back : ℕ)
    → (seen ≡ []) ⊎ ((back ≡ 0) × (unsaid ≡ [])) → unsaid ≡ node ∷ rest → seen ≡ []
nothing_seen seen unsaid rest node back quiet e = search rules

-- the tip stays where it is when a step is reported
pub same_tip : (kept new : List Step) (unsaid rest : List Node) (node : Node) (back : ℕ)
    → back ≡ 0 → unsaid ≡ node ∷ rest → slice_get new 0 ≡ Some node.step
    → tip (slice_get kept back) (steps unsaid) ≡ tip (slice_get new back) (steps rest)
same_tip kept new unsaid rest node back b e first = rw (e, b, first) refl

-- the links of a step don't speak of the place that it names
pub links_moved : (before : Option Step) (step : Step) (place : Place) → Links before step
    → Links before (record {
      state = step.state;
      is_turned = step.is_turned;
      way = step.way;
      parent
          = place;
    })
unfolding Links
links_moved before step place h = h

-- a step may name another place, and so may the one before
pub links_after : (first step : Step) (place other : Place) → Links (Some first) step
    → Links (Some (record {
      state = first.state;
      is_turned = first.is_turned;
      way = first.way;
      parent = place;
    })) (record {
      state = step.state;
      is_turned = step.is_turned;
      way = step.way;
      parent = other;
    })
unfolding Links
links_after first step place other h = elim (links_first first step h) [
  | inl begun ↦ inl begun
  | inr found ↦ inr (
    record {
      state = first.state;
      is_turned = first.is_turned;
      way = first.way;
      parent = place;
    },
    refl,
    found.0,
    found.1,
  )
]

-- a single node after the line's last state
pub grows_one : (shown : List (List Piece)) (kept : List Step) (step : Step)
    → Links (step_at kept (step ∷ []) step.parent) step → IsSeen shown step
    → Grows shown kept (step ∷ [])
grows_one shown kept step h seen h' other e = search rules

pub grows_none : (shown : List (List Piece)) (kept : List Step) → Grows shown kept []
grows_none shown kept k step e = absurd (subst (λ (o : Option Step). MatchOption o ⊤ (λ _. ⊥)) e tt)

pub rooted_none : (lines : ℕ) → IsRooted lines []
rooted_none lines k step e = absurd (subst (λ (o : Option Step). MatchOption o ⊤ (λ _. ⊥)) e tt)

-- a single node after the line's last state
pub rooted_one : (kept : List Step) (step : Step) → slice_get kept 0 ≢ None
    → step.parent ≡ Place.Line 0 → IsRooted (length kept) (step ∷ [])
rooted_one kept step some first k other e = grind (arith, common_steps)
