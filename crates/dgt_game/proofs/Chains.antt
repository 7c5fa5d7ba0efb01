-- Steps in turn, and places for them.
use Rattle.std.proofs.Common.{rules, ◌≡◌, ◌∙◌, ◌≢◌, ◌⊎◌, ◌<◌, ◌≤◌, ◌+◌, ◌++◌, ◌∷◌, refl, sym, ap, subst, inl, inr, arith, ℕ, zero, suc, length, drop, List, [], Option, Some, None, unwrap_or}
use Rattle.std.{proofs.{Common.{slice_index_or}, lemmas.{Grind.{common_steps}, List.{length-map}, Option.{slice_get-map, slice_get_within}}}, specs.Prelude.{⊤, MatchOption, slice_get}}
use Rattle.{dgt_values.specs.declared.pieces.Piece.{Piece}, dgt_game.specs.{declared.node.{Node.{Node}, Place.{Place}, Step.{Step}}, Memory.{Chain, Grows, IsBefore, IsRooted, IsSeen, Links, step_at}}}
use Rattle.dgt_game.{specs.Memory.{steps, tip}, proofs.Told.{links_after, links_any, links_moved}}

abbrev pub moved : Step → Place → Step
moved step place = record {
  state = step.state;
  is_turned = step.is_turned;
  way = step.way;
  parent
      = place;
}

pub chain_any : (shown : List (List Piece)) (before : Option Step) (path : List Step)
    → Chain shown None path → Chain shown before path
chain_any shown before [] h = tt
chain_any shown before (step ∷ path) h = (links_any before step h.0, h.1, h.2)

pub tip_any : (before : Option Step) (path : List Step) (step : Step)
    → Links (tip None path) step → Links (tip before path) step
tip_any before [] step h = links_any before step h
tip_any before (first ∷ path) step h = h

-- the same after other steps
pub chain_joined : (shown : List (List Piece)) (before : Option Step) (first path : List Step)
    → Chain shown before first → Chain shown None path → Chain shown before (first ++ path)
chain_joined shown before [] path h rest = chain_any shown before path rest
chain_joined shown before (step ∷ first) path h rest =
    (h.0, h.1, chain_joined shown (Some step) first path h.2 rest)

pub tip_joined : (before : Option Step) (first path : List Step) (step : Step)
    → Links (tip None path) step → Links (tip before (first ++ path)) step
tip_joined before [] path step h = tip_any before path step h
tip_joined before (next ∷ first) path step h = tip_joined (Some next) first path step h

pub get_step : (nodes : List Node) (k : ℕ) (node : Node) → slice_get nodes k ≡ Some node
    → slice_get (steps nodes) k ≡ Some node.step
get_step nodes k node e = search (rules, slice_get-map)

pub same_some : {X : Type 0} (o : Option X) (a b : X) → o ≡ Some a → o ≡ Some b → a ≡ b
same_some o a b e f = ap (λ (p : Option _). unwrap_or p a) (sym e ∙ f)

pub last_item : {X : Type 0} (old : List X) (item : X) (k : ℕ) → length old ≡ k
    → slice_get (old ++ item ∷ []) k ≡ Some item
last_item [] item k e = ap (λ (n : ℕ). slice_get (item ∷ []) n) (sym e)
last_item (first ∷ old) item zero e = absurd (omega arith)
last_item (first ∷ old) item (suc k) e = last_item old item k (omega arith)

chain_after : (shown : List (List Piece)) (first : Step) (place : Place) (path : List Step)
    → Chain shown (Some first) path → Chain shown (Some (moved first place)) path
unfolding Links
chain_after shown first place [] h = tt
chain_after shown first place (step ∷ path) h =
    (links_after first step place step.parent h.0, h.1, h.2)

tip_after : (first step : Step) (place : Place) (path : List Step)
    → Links (tip (Some first) path) step → Links (tip (Some (moved first place)) path) step
unfolding Links
tip_after first step place [] h = links_after first step place step.parent h
tip_after first step place (next ∷ path) h = h

-- what is at an index stays there
stays_at : (old : List Step) (new : Step) (k : ℕ) (step : Step) → Links (slice_get old k) step
    → Links (slice_get (old ++ new ∷ []) k) step
stays_at [] new k step h = links_any (slice_get (new ∷ []) k) step h
stays_at (first ∷ old) new zero step h = h
stays_at (first ∷ old) new (suc k) step h = stays_at old new k step h

stays : (kept old : List Step) (new : Step) (place : Place) (step : Step)
    → Links (step_at kept old place) step → Links (step_at kept (old ++ new ∷ []) place) step
stays kept old new place step h = search (rules, stays_at)

-- a step at an index is an old one, or the new one
split_at : (old : List Step) (new : Step) (k : ℕ) (step : Step)
    → slice_get (old ++ new ∷ []) k ≡ Some step
    → (slice_get old k ≡ Some step) ⊎ ((new ≡ step) × (k ≡ length old))
split_at [] new zero step e = inr (ap (λ (o : Option Step). unwrap_or o new) e, refl)
split_at [] new (suc k) step e = absurd (subst (λ (o : Option Step). MatchOption o ⊤ (λ _. ⊥)) e tt)
split_at (first ∷ old) new zero step e = inl e
split_at (first ∷ old) new (suc k) step e = search (rules, split_at old new k step e)

pub rooted_push : (lines : ℕ) (old : List Step) (new : Step) → IsRooted lines old
    → IsBefore lines (length old) new.parent → IsRooted lines (old ++ new ∷ [])
rooted_push lines old new rooted before k step e = search (rules, split_at)

-- what may follow is before all later steps, too
pub before_later : (lines k later : ℕ) (place : Place) → k ≤ later → IsBefore lines k place
    → IsBefore lines later place
before_later lines k later place more h = search rules

seen_index : Place → ℕ
seen_index (Place.Seen k) = k
seen_index (Place.Line k) = 0
seen_index Place.Nowhere = 0

-- a path that has left a place began at one that was seen
pub is_within : (k len at : ℕ) (place : Place) → (at ≡ 0 → place ≡ Place.Seen k)
    → (at ≢ 0 → k < len) → (k < len) ⊎ ((j : ℕ) → place ≢ Place.Seen j) → k < len
is_within k len at place j later h = search rules

-- a path that leaves one has left it before, or leaves where it begins
pub is_inside : (k len at here : ℕ) → (at ≡ 0 → Place.Seen here ≡ Place.Seen k)
    → (at ≢ 0 → k < len) → here < len → k < len
unfolding seen_index
is_inside k len at here first later within = search rules

-- a place of the line, or none, was not seen since
pub not_seen : (lines : ℕ) (place : Place) → IsBefore lines 0 place → (j : ℕ) → place ≢ Place.Seen j
not_seen lines place before j e = search rules

pub grows_push : (shown : List (List Piece)) (kept old : List Step) (new : Step)
    → Grows shown kept old → Links (step_at kept old new.parent) new → IsSeen shown new
    → Grows shown kept (old ++ new ∷ [])
grows_push shown kept old new grows links seen k step e = elim (split_at old new k step e) [
  | inl at ↦ (stays kept old new step.parent step (grows k step at).0, (grows k step at).1)
  | inr (same, _) ↦ search (rules, stays)
]

pub steps_push : (nodes : List Node) (node : Node)
    → steps (nodes ++ node ∷ []) ≡ steps nodes ++ node.step ∷ []
steps_push [] node = refl
steps_push (first ∷ nodes) node = ap (λ (xs : List Step). first.step ∷ xs) (steps_push nodes node)

-- what leads to a step leads to the one before it, too
pub path_first : (shown : List (List Piece)) (kept seen path : List Step) (k : ℕ) (step : Step)
    → slice_get seen k ≡ Some step → Grows shown kept seen → Chain shown (slice_get seen k) path
    → Chain shown (step_at kept seen step.parent) (step ∷ path)
path_first shown kept seen path k step is grows chain =
    let new = grows k step is in (new.0, new.1, rw is at chain)

pub steps_drop : (nodes : List Node) (k : ℕ) (node : Node) → k < length nodes
    → node ≡ slice_index_or nodes k node
    → steps (drop k nodes) ≡ node.step ∷ steps (drop (k + 1) nodes)
steps_drop nodes k node l e = grind (arith, common_steps)

-- the next step of a path goes where it is kept
pub next_chained : (shown : List (List Piece)) (kept old rest : List Step) (step : Step) (place :
    Place) (k : ℕ) → length old ≡ k → Grows shown kept old
    → Chain shown (step_at kept old place) (step ∷ rest)
    → Grows shown kept (old ++ moved step place ∷ [])
    × Chain shown (step_at kept (old ++ moved step place ∷ []) (Place.Seen k)) rest
next_chained shown kept old rest step place k e grows chain =
    search (rules, grows_push, links_moved, last_item, chain_after)

pub next_tip : (kept old rest : List Step) (first step : Step) (place : Place) (k : ℕ)
    → length old ≡ k → Links (tip (Some first) rest) step
    → Links (tip (step_at kept (old ++ moved first place ∷ []) (Place.Seen k)) rest) step
next_tip kept old rest first step place k e h = search (rules, last_item, tip_after)

-- the place of what was not seen since
pub place_at : (kept seen : List Step) (place : Place) → ((k : ℕ) → place ≢ Place.Seen k)
    → step_at kept seen place ≡ step_at kept [] place
place_at kept seen place k = search rules

pub some_at : {X : Type 0} (items : List X) (k : ℕ) → k < length items → slice_get items k ≢ None
some_at [] k l e = omega (arith, l)
some_at (first ∷ items) zero l e = absurd (cc)
some_at (first ∷ items) (suc k) l e = some_at items k (omega (arith, l)) e

pub steps_some : (nodes : List Node) → nodes ≢ [] → steps nodes ≢ []
steps_some [] some e = some refl
steps_some (first ∷ nodes) some e = absurd (cc)

-- there is a last step if there is one at all
pub tip_there : (before : Option Step) (path : List Step) → (before ≢ None) ⊎ (path ≢ [])
    → tip before path ≢ None
tip_there before [] (inl some) = some
tip_there before [] (inr some) = absurd (some refl)
tip_there before (first ∷ path) some = tip_there (Some first) path (search rules)

pub steps_length : (nodes : List Node) → length (steps nodes) ≡ length nodes
steps_length nodes = length-map nodes (λ (n : Node). n.step)

-- what is found at a place can be followed, if it isn't too far back
pub found_before : (line seen : List Step) (place : Place) (step : Step)
    → ((k : ℕ) → place ≡ Place.Line k → k ≤ 4) → step_at line seen place ≡ Some step
    → IsBefore (length line) (length seen) place
found_before line seen place step k e = search (rules, slice_get_within)

pub some_below : {X : Type 0} (items : List X) (k : ℕ) → k < length items → (item : X)
    × (slice_get items k ≡ Some item)
some_below [] k l = absurd (omega (arith, l))
some_below (first ∷ items) zero l = (first, refl)
some_below (first ∷ items) (suc k) l = some_below items k (omega (arith, l))
