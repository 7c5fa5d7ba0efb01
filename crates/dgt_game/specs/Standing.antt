-- The board's place in what is known, and what it shows once all is reported.
use Rattle.std.specs.Prelude.{◌≡◌, ◌≢◌, ◌≤◌, ◌+◌, ◌⊎◌, ℕ, zero, suc, Bool, true, false, Option, Some, None, IfSome, MatchOption, length, slice_get}
use Rattle.dgt_values.specs.Board.{pieces_of}
use Rattle.dgt_chess.specs.declared.pieces.Colour.{Colour}
use Rattle.dgt_game.specs.declared.event.GameResult.{GameResult}
use Rattle.dgt_game.specs.declared.memory.Memory.{Memory}
use Rattle.dgt_game.specs.declared.node.Node.{Node}
use Rattle.dgt_game.specs.declared.node.Origin.{Origin}
use Rattle.dgt_game.specs.declared.node.Place.{Place}
use Rattle.dgt_game.specs.declared.node.Step.{Step}
use Rattle.dgt_game.specs.declared.node.Way.{Way}
use Rattle.dgt_game.specs.declared.recogniser.Over.{Over}
use Rattle.dgt_game.specs.declared.recogniser.Recogniser.{Recogniser}
use Rattle.dgt_game.specs.declared.view.View.{View}
use Rattle.dgt_game.specs.Told.{as_shown}
use Rattle.dgt_game.specs.Memory.{IsBefore, IsRooted, IsTold, step_at, steps}
use Rattle.dgt_game.specs.Planning.{CannotBegin, HasKing, IsLifted, IsPlanned, LacksSome, WhyHopeless}
use Rattle.dgt_game.specs.Reading.{Shows}
use Rattle.dgt_game.specs.Timing.{IsIdle}
use Rattle.dgt_game.specs.Waiting.{Show, coming, last_of}

-- the board shows the step's position but for pieces that are in hands or gone
abbrev pub ShowsBut : View → Step → Type 0
ShowsBut view step = LacksSome (as_shown step.is_turned (pieces_of view.shown)) step.state

-- the one or the other, as the node says
abbrev pub ShowsAs : View → Node → Type 0
ShowsAs view node =
    (node.is_held ≡ false → Shows view node.step) × (node.is_held ≡ true → ShowsBut view node.step)

-- the board stands on an answer once the rest is reported, unless it only begins a line anew
abbrev pub Counts : Node → Type 0
Counts node = (node.step.way ≢ Way.Begun) ⊎ (node.origin ≡ Origin.Start)

-- the board shows what the line ends with once all is reported
abbrev pub ShowsLast : View → Memory → Type 0
ShowsLast view self = MatchOption (coming self) ⊥ (Shows view)

-- or what answers it
abbrev pub Lands : View → Memory → Type 0
Lands view self =
    (ShowsLast view self ⊎ MatchOption self.answer ⊥ Counts)
    × IfSome self.answer (λ node. Counts node → ShowsAs view node)

-- the board shows the step, unless it isn't to be reported: then pieces are in hands or gone
abbrev pub StandsOn : Bool → Bool → View → Step → Type 0
StandsOn is_next is_sure view step =
    (is_next ≡ true → Shows view step)
    × (is_sure ≡ true → is_next ≡ false → ShowsBut view step)

-- the board shows what is at the place
abbrev pub StandsAt : Place → Memory → Bool → Bool → View → Type 0
StandsAt (Place.Line zero) self is_next is_sure view = Lands view self
StandsAt (Place.Line (suc k)) self is_next is_sure view =
    (is_sure ≡ true → is_next ≡ true)
    × MatchOption (slice_get (steps self.line.items) (suc k)) ⊥ (Shows view)
StandsAt (Place.Seen k) self is_next is_sure view =
    MatchOption (slice_get (steps self.seen.items) k) ⊥ (StandsOn is_next is_sure view)
StandsAt Place.Nowhere self is_next is_sure view = is_next ≡ false

-- the players show a result by their kings
abbrev pub EndsByKings : Recogniser → Type 0
EndsByKings self = (result : GameResult) × (self.ended ≡ Some (result, Over.Kings))

-- the board stands at what follows the line's last state
abbrev pub IsAtAnswer : Recogniser → Type 0
IsAtAnswer self =
    (self.here ≡ Place.Seen 0)
    × MatchOption (slice_get (steps self.memory.seen.items) 0) ⊥
    (λ step. step.parent ≡ Place.Line 0)

-- The board stands at what the line ends with once all is reported, or at what answers that, or the
-- players show a result by their kings.
abbrev pub IsThere : Recogniser → Type 0
IsThere self =
    (self.here ≡ Place.Line 0) ⊎ IsAtAnswer self
    ⊎ ((step : Step) × ((result : GameResult) × Show self.view step result))

-- what waits to be reported is what the board shows for sure, or a result by kings
abbrev pub IsMeant : Recogniser → Type 0
IsMeant self =
    (self.is_sure ≡ true) × (((self.here ≡ Place.Line 0)
    × IfSome self.view (λ view. Lands view self.memory)) ⊎ ((self.here ≡ Place.Nowhere)
    × (self.is_next ≡ false) × (self.memory.answer ≡ None) × EndsByKings self))

-- at most this many states are taken back, unless the board shows the one before them
abbrev pub TakesBack : ℕ → Recogniser → Type 0
TakesBack most self =
    (self.memory.back ≤ most) ⊎ IfSome self.view (λ view. ShowsLast view self.memory)

-- what is so between calls
abbrev pub Stands : Recogniser → Type 0
Stands self =
    IfSome self.view (StandsAt self.here self.memory self.is_next self.is_sure)
    × (IsTold self.memory → self.memory.answer ≡ None)
    × (IsTold self.memory ⊎ IsMeant self) × TakesBack 4 self

-- ---- Laws

-- the board has rested for a minute, sure and confirmed, and all that was due is reported
abbrev pub HasRested : ℕ → Recogniser → Type 0
HasRested now self =
    (self.is_sure ≡ true) × (self.is_confirmed ≡ true) × (self.since + 60000 ≤ now)
    × IsIdle now self

-- **What rests is reported.** After a minute the line's last state stands on the board, unless
-- pieces are lifted, the line has ended, a king is missing, no line can begin or a result is shown.
abbrev pub RestIsReported : Type 0
RestIsReported =
    (self : Recogniser) (view : View) (now : ℕ) → Stands self → IsPlanned self → WhyHopeless self
    → self.view ≡ Some view → HasRested now self
    → ((step : Step) × (last_of self.memory ≡ Some step) × Shows view step) ⊎ IsLifted self
    ⊎ (self.over ≢ Over.No) ⊎ ((colour : Colour) × ¬ (HasKing (pieces_of view.shown) colour))
    ⊎ CannotBegin self.running view
    ⊎ ((step : Step) × ((result : GameResult) × Show self.view step result))

-- **What is shown since is to be reported**, if it is shown for sure and all of it.
abbrev pub ShownIsNext : Type 0
ShownIsNext =
    (self : Recogniser) (view : View) (k : ℕ) (step : Step) → Stands self → self.view ≡ Some view
    → self.is_sure ≡ true → self.here ≡ Place.Seen k
    → slice_get (steps self.memory.seen.items) k ≡ Some step → Shows view step
    → self.is_next ≡ true

-- **Only what the board shows is reported.** While half-moves are taken back or reported, the board
-- shows for sure what they lead to, what answers that, or a result. More than four states are taken
-- back only if the board shows the one before them.
abbrev pub OnlyShownIsReported : Type 0
OnlyShownIsReported =
    (self : Recogniser) (view : View) → Stands self → self.view ≡ Some view → ¬ (IsTold self.memory)
    → (self.is_sure ≡ true) × (Lands view self.memory ⊎ EndsByKings self)
    × ((self.memory.back ≤ 4) ⊎ ShowsLast view self.memory)

-- only for bodies

-- nothing waits to be reported
abbrev pub IsOpen : Memory → Type 0
IsOpen self =
    IsTold self × (self.answer ≡ None)
    × IsRooted (length (steps self.line.items)) (steps self.seen.items)

-- reporting what leads to a place is meant: the board shows it, or what answers it
abbrev pub IsCalledFor : Memory → Place → Option Node → View → Type 0
IsCalledFor self place answer view =
    MatchOption (step_at (steps self.line.items) (steps self.seen.items) place) ⊥ (λ step.
    Shows view step ⊎ ((place ≢ Place.Line 0)
    × IsBefore (length (steps self.line.items)) (length (steps self.seen.items)) place
    × MatchOption answer ⊥ Counts))
    × IfSome answer (λ node. Counts node → ShowsAs view node)

-- the board shows what it stands at
abbrev pub ShowsHere : Recogniser → Type 0
ShowsHere self =
    IfSome self.view (λ view. MatchOption (step_at (steps self.memory.line.items) (steps
    self.memory.seen.items) self.here) ⊥ (Shows view))

-- the board shows what was reported, but for a result by kings
abbrev pub EndsHere : Recogniser → Type 0
EndsHere self =
    ((self.here ≡ Place.Line 0) × IfSome self.view (λ view. Lands view self.memory))
    ⊎ ((self.here ≡ Place.Nowhere) × (self.is_next ≡ false) × (self.memory.answer ≡ None))
