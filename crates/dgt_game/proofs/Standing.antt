-- The board's place in what is known, and what it shows once all is reported.
use Rattle.std.{proofs.{Common.{rules, ◌≡◌, ◌≢◌, ◌∙◌, ◌⊎◌, ◌≤◌, refl, sym, ap, ℕ, Bool, true, false, List, length, Option, Some, None}, Math.Bridge.{le_prop}, lemmas.Bool.{false≢true}}}
use Rattle.std.specs.Prelude.{IfSome, MatchOption}
use Rattle.{dgt_values.specs.declared.pieces.Piece.{Piece}, dgt_chess.specs.{declared.state.State.{State}, Rules.{board}}, dgt_game.specs.declared.{memory.Memory.{Memory}, node.Node.{Node}}}
use Rattle.dgt_game.specs.{declared.{node.{Place.{Place}, Returned.{Returned}, Step.{Step}}, recogniser.Recogniser.{Recogniser}, view.View.{View}}, Memory.{IsBefore, IsTold, step_at, steps}}
use Rattle.dgt_game.specs.{Planning.{LacksOnly}, Reading.{Shows}, Told.{IsHeld}, Standing.{EndsHere, IsCalledFor, IsMeant, IsOpen, Lands, ShowsAs, ShowsBut, ShowsLast, Stands, StandsAt, TakesBack}}
use Rattle.dgt_game.specs.declared.{event.GameResult.{GameResult}, recogniser.Over.{Over}}
use Rattle.{std.{proofs.lemmas.Option.{MatchOption-at_some}, proofs.Common.{inl, inr}, specs.Prelude.{⊤}}, dgt_game.specs.Standing.{IsAtAnswer, IsThere}}
use Rattle.dgt_game.{specs.Waiting.{EndWaits, EndsBy, coming}, proofs.{Chains.{moved, some_below}, Gone.{same_or_gone}}}

-- what is so of a value is so of one that is there
pub some_of : {X : Type 0} (o : Option X) (P : X → Type 0) → MatchOption o ⊥ P → (x : X)
    × (o ≡ Some x) × P x
some_of o P x = search rules

pub of_some : {X : Type 0} (o : Option X) (x : X) (P : X → Type 0) → o ≡ Some x → P x
    → MatchOption o ⊥ P
of_some o x P e h = rw e h

pub shows_as : (view : View) (node : Node) → node.is_held ≡ false → Shows view node.step
    → ShowsAs view node
shows_as view node whole h = (λ e. h, λ e. absurd (false≢true (sym whole ∙ e)))

pub lacks_as : (view : View) (node : Node) → node.is_held ≡ true → ShowsBut view node.step
    → ShowsAs view node
lacks_as view node held h = (λ e. absurd (false≢true (sym e ∙ held)), λ e. h)

-- the line's last state once all is reported is at its first place
pub last_at_first : (memory : Memory) → IsTold memory
    → coming memory ≡ step_at (steps memory.line.items) (steps memory.seen.items) (Place.Line 0)
last_at_first memory told = rw (told.0, told.1) refl

-- what is reported ends with what the board shows, or with what that answers
pub tells : (view : View) (old new : Memory) (place : Place) (answer : Option Node)
    → IsOpen old → ((step : Step) → step_at (steps old.line.items) (steps old.seen.items) place
    ≡ Some step → coming new ≡ Some step) → ((step : Step) → step_at (steps old.line.items) (steps
    old.seen.items) place ≡ Some step → (new.back ≤ 4) ⊎ (place ≡ Place.Line new.back))
    → ((step : Step) → step_at (steps old.line.items) (steps old.seen.items) place ≡ Some step
    → place ≢ Place.Line 0 → new.answer ≡ answer)
    → (new.answer ≡ answer) ⊎ (new.answer ≡ None) → IsCalledFor old place answer view
    → Lands view new × ((new.back ≤ 4) ⊎ ShowsLast view new)
tells view old new place answer ready lands near answers either called = search rules

pub if_some : {X : Type 0} (o : Option X) (P Q : X → Type 0) → IfSome o P → ((x : X) → P x → Q x)
    → IfSome o Q
if_some o P Q x more = search rules

pub both : {X : Type 0} (o : Option X) (P Q : X → Type 0) → IfSome o P → IfSome o Q
    → IfSome o (λ x. P x × Q x)
both o P Q p q = search rules

pub returned_same : (count : ℕ) (near other : count ≤ 4) → ◌≡◌ {A = Returned} (record {
  count = count;
  is_sure = false;
  near = near;
}) (record { count = count; is_sure = false; near = other })
returned_same count near other =
    ap (λ (n : count ≤ 4). record { count = count; is_sure = false; near = n }) (le_prop near other)

pub match_more : {X : Type 0} (o : Option X) (P Q : X → Type 0) → MatchOption o ⊥ P
    → ((x : X) → P x → Q x) → MatchOption o ⊥ Q
match_more o P Q x more = search rules

-- where the board stands is what it shows, if that is to be reported
pub shows_at : (view : View) (place : Place) (self : Memory) (is_sure : Bool) → IsTold self
    → self.answer ≡ None → StandsAt place self true is_sure view
    → MatchOption (step_at (steps self.line.items) (steps self.seen.items) place) ⊥ (Shows view)
shows_at view place self is_sure told none at = search rules

-- if nothing waits, all depends on where the board stands
pub resting : {At Meant Back : Type 0} (memory : Memory) → IsTold memory → memory.answer ≡ None
    → At → At × (IsTold memory → memory.answer ≡ None) × (IsTold memory ⊎ Meant)
    × ((memory.back ≤ 4) ⊎ Back)
resting memory told none at = search rules

pub some_view : (view : View) (seen : Option View) (P : View → Type 0) → seen ≡ Some view → P view
    → IfSome seen P
some_view view seen P e h = rw e h

pub told_stays : (old new : Memory) → new.back ≡ old.back → new.unsaid.items ≡ old.unsaid.items
    → IsTold old → IsTold new
told_stays old new back unsaid told = (back ∙ told.0, unsaid ∙ told.1)

pub at_other : (place : Place) (self : Memory) (is_sure : Bool) (view : View)
    → ((k : ℕ) → place ≢ Place.Line k) → ((k : ℕ) → place ≢ Place.Seen k)
    → StandsAt place self false is_sure view
at_other (Place.Line k) self is_sure view line seen = absurd (line k refl)
at_other (Place.Seen k) self is_sure view line seen = absurd (seen k refl)
at_other Place.Nowhere self is_sure view line seen = refl

pub back_of : {X : Type 0} (o : Option X) (back : ℕ) (P : X → Type 0)
    → IfSome o (λ x. (back ≤ 4) ⊎ P x) → (back ≤ 4) ⊎ IfSome o P
back_of o back P h = search rules

pub every_some : {X : Type 0} (o : Option X) (P : X → Type 0) → ((x : X) → P x) → IfSome o P
every_some o P x = search rules

-- a node is shown wherever it is kept
pub shows_moved : (view : View) (node new : Node) (place : Place) → new.step ≡ moved node.step place
    → new.is_held ≡ node.is_held → ShowsAs view node → ShowsAs view new
shows_moved view node new place step held shown = search rules

-- what may be followed is there
pub found_of : (line seen : List Step) (place : Place)
    → IsBefore (length line) (length seen) place → place ≢ Place.Nowhere → (step : Step)
    × (step_at line seen place ≡ Some step)
found_of line seen (Place.Line k) before some = some_below line k before.0
found_of line seen (Place.Seen k) before some = some_below seen k before
found_of line seen Place.Nowhere before some = absurd (some refl)

pub but_moved : (view : View) (step other : Step) → other.is_turned ≡ step.is_turned
    → board other.state ≡ board step.state → ShowsBut view step → ShowsBut view other
but_moved view step other turned same shown = search rules

-- pieces in hands lack, or one that is gone
pub held_lacks : (picture : List Piece) (state : State) → IsHeld picture state
    → LacksOnly picture state
held_lacks picture state (inl men) = search rules
held_lacks picture state (inr (gone, lacks)) = λ square small.
    same_or_gone picture state gone square lacks

-- what is reported later is meant, too
pub meant_stands : (self : Recogniser) → IsMeant self → TakesBack 4 self
    → (IsTold self.memory → self.memory.answer ≡ None) → Stands self
meant_stands self meant back none = search rules

pub ends_of : (self : Recogniser) → IsMeant self → EndsHere self
ends_of self meant = search rules

pub meant_moved : (self : Recogniser) (new : Memory) → coming new ≡ coming self.memory
    → new.answer ≡ self.memory.answer → IsMeant self → IsMeant (record self { memory = new })
meant_moved self new same answer meant = search rules

pub back_moved : (self : Recogniser) (new : Memory) → coming new ≡ coming self.memory
    → new.back ≤ self.memory.back → TakesBack 4 self → TakesBack 4 (record self { memory = new })
back_moved self new same less back = search rules

-- after a report of the line, the board stands there
pub there_then : (self new : Recogniser) → IsMeant self → EndWaits self
    → (new.here ≡ self.here) ⊎ IsAtAnswer new → new.view ≡ self.view → IsThere new
there_then self new meant ends (inr answers) view = inr (inl answers)
there_then self new (sure, inl last) ends (inl here) view = inl (here ∙ last.0)
there_then self new (sure, inr (nowhere, next, none, (result, is))) ends (inl here) view =
    let end = MatchOption-at_some ⊤ (λ (end : GameResult × Over). (step : Step)
    × (coming self.memory ≡ Some step) × EndsBy end.1 self.view step end.0) (result, Over.Kings) is
    ends in
    inr (inr (end.0, (result, rw view end.2)))
