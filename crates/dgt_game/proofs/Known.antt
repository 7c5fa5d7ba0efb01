-- What is known stays so when more is shown, and over whole runs.
use Rattle.std.{proofs.Common.{rules, ◌≡◌, ◌++◌, ◌<◌, arith, ℕ, suc, length, slice_index_or, Bool, List, [], ◌∷◌, Option, Some}, specs.Prelude.{Contains, IfSome}}
use Rattle.{dgt_values.specs.{declared.pieces.Piece.{Piece}, Board.{pieces_of}}, dgt_chess.specs.declared.state.State.{State}, dgt_game.specs.declared.{memory.Memory.{Memory}, node.Node.{Node}}}
use Rattle.dgt_game.specs.{declared.{node.{Place.{Place}, Step.{Step}, Way.{Way}}, observation.Sight.{Sight}, recogniser.Recogniser.{Recogniser}, view.View.{View}}, Told.{IsShown, Told, WasShown}}
use Rattle.{std.{proofs.Common.{None, ap, refl, subst, sym}, specs.Prelude.{option_map, slice_get}}, dgt_game.specs.{Memory.{IsKept, steps}, Recogniser.{last_state}, Waiting.{last_of}}}
use Rattle.dgt_game.{specs.{Memory.{Chain, Holds}, Recogniser.{GoesOn, Knows, new_recogniser, shown_after}}, proofs.{Links.{was_shown}}}
use Rattle.{std.{proofs.Common.{false}, specs.Option.{option_eq}}, dgt_chess.specs.declared.pieces.Colour.{Colour}}
use Rattle.dgt_chess.specs.contracts.pieces.ColourPartialEq.TheImpl as derived

-- all pictures of the first are among the second
abbrev pub Within : List (List Piece) → List (List Piece) → Type 0
Within shown more = (picture : List Piece) → Contains shown picture → Contains more picture

pub within_cons : (shown : List (List Piece)) (first : List Piece) → Within shown (first ∷ shown)
within_cons shown first picture h = (suc h.0, omega (arith, h.1), h.2)

first_among : (shown : List (List Piece)) (first picture : List Piece) (k : ℕ)
    → k < length (first ∷ []) → slice_index_or (first ∷ []) k picture ≡ picture
    → Contains (first ∷ shown) picture
first_among shown first picture k l e = search rules

pub within_first : (shown : List (List Piece)) (first : List Piece)
    → Within (first ∷ []) (first ∷ shown)
within_first shown first picture h = first_among shown first picture h.0 h.1 h.2

pub within_after : (sight : Sight) (shown : List (List Piece))
    → Within shown (shown_after sight shown)
within_after (Sight.Sure position) shown = within_cons shown (pieces_of position)
within_after (Sight.Doubted position) shown = within_cons shown (pieces_of position)
within_after Sight.Away shown = λ picture h. h

pub was_more : (shown more : List (List Piece)) (told : Told) → Within shown more
    → WasShown shown told → WasShown more told
unfolding WasShown
was_more shown more told within h = search rules

shown_more : (shown more : List (List Piece)) (line : List Told) → Within shown more
    → IsShown shown line → IsShown more line
shown_more shown more [] within h = tt
shown_more shown more (told ∷ line) within h =
    (was_more shown more told within h.0, shown_more shown more line within h.1)

chain_more : (shown more : List (List Piece)) (before : Option Step) (path : List Step)
    → Within shown more → Chain shown before path → Chain more before path
chain_more shown more before [] within h = tt
chain_more shown more before (step ∷ path) within h =
    (h.0, was_more shown more _ within h.1, chain_more shown more (Some step) path within h.2)

some_more : {X : Type 0} (P Q : X → Type 0) (found : Option X) → ((x : X) → P x → Q x)
    → IfSome found P → IfSome found Q
some_more P Q found x h = search rules

pub holds_more : (shown more : List (List Piece)) (line : List Told) (self : Memory)
    → Within shown more → Holds shown line self → Holds more line self
holds_more shown more line self within h = record {
  shown_line = shown_more shown more line within h.shown_line;
  kept = h.kept;
  back = h.back;
  unsaid = chain_more shown more _ _ within h.unsaid;
  answer = search (rules, was_more);
  answered = h.answered;
  grows = λ k step e. let seen = h.grows k step e in (seen.0, was_more shown more _ within seen.1);
  rooted = h.rooted;
  quiet = h.quiet;
}

pub knows_more : (shown more : List (List Piece)) (line : List Told) (self : Recogniser)
    → Within shown more → Knows shown line self → Knows more line self
knows_more shown more line self within h = search (rules, holds_more, some_more)

-- only these two are known
abbrev pub memory_of : Recogniser → Memory
memory_of self = self.memory

abbrev pub view_of : Recogniser → Option View
view_of self = self.view

pub knows_same : (shown : List (List Piece)) (line : List Told) (old new : Recogniser)
    → memory_of new ≡ memory_of old → view_of new ≡ view_of old → Knows shown line old
    → Knows shown line new
knows_same shown line old new memory view h = search rules

pub knows_nothing : Knows [] [] new_recogniser
knows_nothing = search rules

-- the first step of a line
abbrev pub first_step : State → Bool → Step
first_step state is_turned = record {
  state = state;
  is_turned = is_turned;
  way = Way.Begun;
  parent = Place.Nowhere;
}

pub goes_on : (state : State) (is_turned : Bool) (old self : Recogniser) (node : Node)
    → old ≡ new_recogniser → node.step ≡ first_step state is_turned
    → self.memory.line.items ≡ old.memory.line.items ++ node ∷ []
    → self.memory.back ≡ old.memory.back → self.memory.unsaid.items ≡ old.memory.unsaid.items
    → self.memory.answer ≡ old.memory.answer → self.memory.seen.items ≡ old.memory.seen.items
    → self.view ≡ old.view → GoesOn state is_turned self
goes_on state is_turned old self node new step line back unsaid answer seen view =
    search (rules, was_shown)

kept_ends : (kept : List Step) (line : List Told) → IsKept kept line
    → option_map (λ step. step.state) (slice_get kept 0) ≡ last_state line
kept_ends [] line h = subst (λ (l : List Told). None ≡ last_state l) (sym (h.1 refl)) refl
kept_ends (step ∷ kept) [] h = absurd h.0
kept_ends (step ∷ kept) (told ∷ line) h = ap (λ (t : Told). Some t.state) h.0.0

-- the line that was reported ends in the last state that is kept
pub ends_in : (self : Recogniser) (shown : List (List Piece)) (line : List Told)
    → Knows shown line self
    → option_map (λ step. step.state) (last_of self.memory) ≡ last_state line
ends_in self shown line knows = kept_ends (steps self.memory.line.items) line knows.held.kept

-- sides that are found equal are the same
pub same_side : (one other : Option Colour) (same : Bool)
    → same ≡ option_eq (derived.eq-value).it one other → ¬ (same ≡ false) → other ≡ one
same_side None None same e is = refl
same_side None (Some other) same e is = absurd (is e)
same_side (Some one) None same e is = absurd (is e)
same_side (Some Colour.White) (Some Colour.White) same e is = refl
same_side (Some Colour.White) (Some Colour.Black) same e is = absurd (is e)
same_side (Some Colour.Black) (Some Colour.White) same e is = absurd (is e)
same_side (Some Colour.Black) (Some Colour.Black) same e is = refl
