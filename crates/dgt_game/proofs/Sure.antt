-- Nodes that were shown for sure.
use Rattle.std.{proofs.Common.{rules, ◌≡◌, ◌≢◌, ◌++◌, ◌∷◌, refl, inl, inr, subst, Bool, true, false, ℕ, zero, suc, List, [], Option, None}, specs.Prelude.{⊤, Contains, IfSome, MatchOption}}
use Rattle.{std.specs.Prelude.{slice_get}, dgt_values.specs.{declared.{pieces.Piece.{Piece}, positions.Position.{Position}}, Board.{pieces_of}}, dgt_chess.specs.declared.state.State.{State}}
use Rattle.dgt_game.specs.declared.{event.GameResult.{GameResult}, memory.Memory.{Memory}, node.{Node.{Node}, Place.{Place}, Returned.{Returned}, Step.{Step}}, observation.Sight.{Sight}}
use Rattle.dgt_game.specs.{declared.recogniser.Recogniser.{Recogniser}, Memory.{IsTold, halves_of, step_at, steps, told_of}, Recogniser.{new_recogniser}, Results.{ByKings}, Sure.{AreMarked, IsMarked}}
use Rattle.dgt_game.{specs.{Sure.{KnowsSure, WasSure, WereSure, sure_after}, Told.{IsHeld, Told, WasShown, as_shown, told_pieces}, Waiting.{coming, is_sure_sight}}, proofs.Known.{Within}}
use Rattle.dgt_game.{proofs.{Known.{first_step, was_more, within_cons}, Links.{was_shown}, Standing.{if_some, match_more}}, specs.{declared.view.View.{View}, Standing.{StandsAt}}}

pub marked_first : (sure : List (List Piece)) (node : Node) (nodes : List Node)
    → IsMarked sure node → AreMarked sure nodes → AreMarked sure (node ∷ nodes)
marked_first sure node nodes mark marked h other e = search rules

pub marked_none : (sure : List (List Piece)) → AreMarked sure []
marked_none sure k node e = absurd (subst (λ (o : Option Node). MatchOption o ⊤ (λ _. ⊥)) e tt)

pub marked_push : (sure : List (List Piece)) (nodes : List Node) (node : Node)
    → AreMarked sure nodes → IsMarked sure node → AreMarked sure (nodes ++ node ∷ [])
marked_push sure [] node marked mark k other e =
    marked_first sure node [] mark (marked_none sure) k other e
marked_push sure (first ∷ nodes) node marked mark zero other e = marked zero other e
marked_push sure (first ∷ nodes) node marked mark (suc k) other e =
    marked_push sure nodes node (λ j next. marked (suc j) next) mark k other e

-- only what was seen changes
pub seen_marked : (sure : List (List Piece)) (gone : Returned) (old new : Memory)
    → new.line ≡ old.line → new.back ≡ old.back → new.unsaid ≡ old.unsaid
    → new.answer ≡ old.answer → AreMarked sure new.seen.items → WereSure sure old gone
    → WereSure sure new gone
seen_marked sure gone old new lines back unsaid answer marked h = search rules

-- the same, and another state may be the one that the board has gone back to
pub gone_back : (sure : List (List Piece)) (old new : Returned) (self : Memory) → IsTold self
    → (new.is_sure ≡ true → IfSome (slice_get (steps self.line.items) new.count)
    (λ step. WasShown sure (told_of step))) → WereSure sure self old → WereSure sure self new
gone_back sure old new self told back h = search rules

-- A line begins with a state that counts as shown.
pub goes_on_sure : (state : State) (is_turned : Bool) (old self : Recogniser) (node : Node)
    → old ≡ new_recogniser → node.step ≡ first_step state is_turned
    → self.memory.line.items ≡ old.memory.line.items ++ node ∷ []
    → self.memory.back ≡ old.memory.back → self.memory.unsaid.items ≡ old.memory.unsaid.items
    → self.memory.answer ≡ old.memory.answer → self.memory.seen.items ≡ old.memory.seen.items
    → self.is_sure ≡ old.is_sure → self.returned ≡ old.returned
    → KnowsSure (told_pieces (told_of (first_step state is_turned)) ∷ []) self
unfolding WasSure
goes_on_sure state is_turned old self node new step line back unsaid answer seen sure returned =
    search (rules, was_shown)

-- more was shown for sure since
pub was_sure_more : (sure more : List (List Piece)) (told : Told) → Within sure more
    → WasSure sure told → WasSure more told
unfolding WasSure
was_sure_more sure more told within h = search (rules, was_more)

pub were_more : (sure more : List (List Piece)) (gone : Returned) (self : Memory)
    → Within sure more → WereSure sure self gone → WereSure more self gone
were_more sure more gone self within h = record {
  seen = λ k node e mark. was_more sure more (told_of node.step) within (h.seen k node e mark);
  answer = search (rules, was_more);
  returned = λ e. if_some _ _ _ (h.returned e) (λ step was.
      was_more sure more (told_of step) within was);
  waits = h.waits;
  ends = if_some (coming self) _ _ h.ends (λ step was.
      was_sure_more sure more (told_of step) within was);
}

pub within_sure : (sight : Sight) (sure : List (List Piece)) → Within sure (sure_after sight sure)
within_sure (Sight.Sure position) sure = within_cons sure (pieces_of position)
within_sure (Sight.Doubted position) sure = λ picture h. h
within_sure Sight.Away sure = λ picture h. h

-- what is shown now is shown for sure
pub shown_sure : (sure : List (List Piece)) (told : Told) → WasShown sure told → WasSure sure told
unfolding WasSure
shown_sure sure told shown = inl shown

pub kings_sure : (sure : List (List Piece)) (told : Told) (picture : List Piece)
    (result : GameResult) → Contains sure picture
    → ByKings (as_shown told.is_turned picture) told.state result → WasSure sure told
unfolding WasSure
kings_sure sure told picture result seen by = inr (picture, seen, (result, by))

-- pieces of the side to move are in hands
pub held_sure : (sure : List (List Piece)) (step : Step) (picture : List Piece)
    → halves_of step.way ≡ 1 → Contains sure picture
    → IsHeld (as_shown step.is_turned picture) step.state → WasShown sure (told_of step)
unfolding WasShown
held_sure sure step picture one seen held = inr (inl (one, (picture, seen, inl held)))

marked_step : (sure : List (List Piece)) (nodes : List Node) (k : ℕ) → AreMarked sure nodes
    → MatchOption (slice_get nodes k) ⊥ (λ node. node.is_sure ≡ true)
    → IfSome (slice_get (steps nodes) k) (λ step. WasSure sure (told_of step))
marked_step sure [] k marked h = absurd h
marked_step sure (first ∷ nodes) zero marked h =
    shown_sure sure (told_of first.step) (marked zero first refl h)
marked_step sure (first ∷ nodes) (suc k) marked h =
    marked_step sure nodes k (λ j node. marked (suc j) node) h

pub parent_sure : (sure : List (List Piece)) (self : Memory) (gone : Returned) (place : Place)
    → ((k : ℕ) → place ≡ Place.Line k → (gone.is_sure ≡ true) × (gone.count ≡ k))
    → ((k : ℕ) → place ≡ Place.Seen k
    → MatchOption (slice_get self.seen.items k) ⊥ (λ before. before.is_sure ≡ true))
    → WereSure sure self gone → IfSome (step_at (steps self.line.items) (steps self.seen.items)
    place) (λ step. WasSure sure (told_of step))
parent_sure sure self gone (Place.Line k) line seen h =
    let (is, count) = line k refl in
    search (rules, shown_sure)
parent_sure sure self gone (Place.Seen k) line seen h =
    marked_step sure self.seen.items k h.seen (seen k refl)
parent_sure sure self gone Place.Nowhere line seen h = tt

-- what the board stands at is shown for sure
here_at : (sure : List (List Piece)) (self : Recogniser) (shown : Option View)
    → IsTold self.memory → self.memory.answer ≡ None
    → IfSome shown (StandsAt self.here self.memory true self.is_sure)
    → MatchOption shown ⊥ (λ view. Contains sure (pieces_of view.shown))
    → IfSome (step_at (steps self.memory.line.items) (steps self.memory.seen.items) self.here)
    (λ step. WasSure sure (told_of step))
here_at sure self shown told none at seen = search (rules, shown_sure, was_shown)

pub here_sure : (sure : List (List Piece)) (self : Recogniser) → IsTold self.memory
    → self.memory.answer ≡ None
    → IfSome self.view (StandsAt self.here self.memory true self.is_sure)
    → MatchOption self.view ⊥ (λ view. Contains sure (pieces_of view.shown))
    → IfSome (step_at (steps self.memory.line.items) (steps self.memory.seen.items) self.here)
    (λ step. WasSure sure (told_of step))
here_sure sure self told none at seen = here_at sure self self.view told none at seen

abbrev pub sure_of : Recogniser → Bool
sure_of self = self.is_sure

pub not_sure : (sight : Sight) → ((position : Position) → sight ≢ Sight.Sure position)
    → is_sure_sight sight ≡ false
not_sure sight position = search rules

pub knows_sure_more : (sure more : List (List Piece)) (self : Recogniser) → Within sure more
    → KnowsSure sure self → KnowsSure more self
knows_sure_more sure more self within h = (
  (λ e. match_more self.view _ _ (h.0 e) (λ view seen. within (pieces_of view.shown) seen)),
  were_more sure more self.returned self.memory within h.1,
)

pub knows_none : KnowsSure [] new_recogniser
knows_none = search rules
