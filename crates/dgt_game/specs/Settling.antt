-- What is reported has rested, or what is seen next answers it.
use Rattle.std.specs.Prelude.{◌≡◌, ◌≢◌, ◌<◌, ◌≤◌, ◌↔◌, ◌⊎◌, ◌+◌, ◌-◌, ◌^◌, ℕ, true, false, List, [], Some, MatchOption, slice_get}
use Rattle.dgt_values.specs.declared.pieces.Piece.{Piece}
use Rattle.dgt_values.specs.Board.{pieces_of}
use Rattle.dgt_chess.specs.declared.pieces.Colour.{Colour}
use Rattle.dgt_chess.specs.declared.pieces.Man.{Man}
use Rattle.dgt_chess.specs.Attacks.{file, other, piece_at, piece_of, row}
use Rattle.dgt_chess.specs.Rules.{CanMove}
use Rattle.dgt_game.specs.declared.event.Event.{Event}
use Rattle.dgt_game.specs.declared.event.GameResult.{GameResult}
use Rattle.dgt_game.specs.declared.memory.Memory.{Memory}
use Rattle.dgt_game.specs.declared.node.Node.{Node}
use Rattle.dgt_game.specs.declared.node.Origin.{Origin}
use Rattle.dgt_game.specs.declared.node.Place.{Place}
use Rattle.dgt_game.specs.declared.node.Step.{Step}
use Rattle.dgt_game.specs.declared.node.Way.{Way}
use Rattle.dgt_game.specs.declared.recogniser.Lost.{Lost}
use Rattle.dgt_game.specs.declared.recogniser.Over.{Over}
use Rattle.dgt_game.specs.declared.recogniser.Recogniser.{Recogniser}
use Rattle.dgt_game.specs.declared.recogniser.Search.{Search}
use Rattle.dgt_game.specs.declared.resting.Task.{Task}
use Rattle.dgt_game.specs.Memory.{IsTold, steps}
use Rattle.dgt_game.specs.declared.view.View.{View}
use Rattle.dgt_game.specs.Planning.{HasKing, IsFar, IsLifted, IsPlanned, IsSettled, RestsBefore, TaskFits}
use Rattle.dgt_game.specs.Results.{IsCentre, IsKing}
use Rattle.dgt_game.specs.Standing.{IsThere, Lands, ShowsAs, ShowsBut, ShowsLast, Stands}
use Rattle.dgt_game.specs.Timing.{Due, IsIdle, IsNext}
use Rattle.dgt_game.specs.Reading.{Shows}
use Rattle.dgt_game.specs.Waiting.{IsQuiet, Show, coming, last_of}

-- nothing waits to be reported, or a half-move answers it
abbrev pub IsAnswered : Memory → Type 0
IsAnswered self = IsTold self ⊎ MatchOption self.answer ⊥ (λ node. node.step.way ≢ Way.Begun)

-- the board stands at a node that was shown since
abbrev pub IsAt : Recogniser → Node → Type 0
IsAt self node =
    (k : ℕ) × (self.here ≡ Place.Seen k) × (slice_get self.memory.seen.items k ≡ Some node)

-- what is shown stays, whether that is sure, and since when it is shown
abbrev pub StaysShown : Recogniser → Recogniser → Type 0
StaysShown self new =
    (new.view ≡ self.view) × (new.since ≡ self.since) × (new.is_sure ≡ self.is_sure)

-- the board shows what follows the line's last state, but for pieces in hands
abbrev pub ShowsAnswer : View → Memory → Type 0
ShowsAnswer view self =
    (step : Step) × (slice_get (steps self.seen.items) 0 ≡ Some step)
    × (step.parent ≡ Place.Line 0) × (Shows view step ⊎ ShowsBut view step)

-- The board shows what the line ends with once all is reported, or what answers that, or a result
-- by kings.
abbrev pub ShowsEnd : View → Recogniser → Type 0
ShowsEnd view self =
    Lands view self.memory ⊎ ShowsAnswer view self.memory
    ⊎ ((step : Step) × ((result : GameResult) × Show self.view step result))

-- ---- Laws

-- nothing waits and what is next is planned, but this call of `due` reports something
abbrev pub ReportsNow : ℕ → Recogniser → Event → Recogniser → Type 0
ReportsNow now self event new =
    IsPlanned self × IsQuiet self × (now < 2 ^ 64 - 1) × Due now self (Some event) new

-- **What is reported has rested.** The board shows it for sure, and for as long as is planned.
abbrev pub ReportedHasRested : Type 0
ReportedHasRested =
    (self new : Recogniser) (event : Event) (now : ℕ) → ReportsNow now self event new
    → (self.is_sure ≡ true) × ((task : Task) × (wait : ℕ) × TaskFits self task
    × RestsBefore self task wait × (self.since + wait ≤ now))

-- That is for 300 ms at least, but for the start of a game.
abbrev pub ReportedHasSettled : Type 0
ReportedHasSettled =
    (self new : Recogniser) (event : Event) (now : ℕ) → ReportsNow now self event new
    → (self.since + 300 ≤ now) ⊎ ((node : Node) × IsAt self node × (node.origin ≡ Origin.Start)
    × (node.depth ≡ 1))

-- **What is reported is what rests.** After each report of the line, the board shows for sure, and
-- has shown for as long, what the line ends with once all is reported, what answers that, or a
-- result by kings. More than four states are taken back only if it shows the one before them.
abbrev pub ReportedIsShown : Type 0
ReportedIsShown =
    (self new : Recogniser) (view : View) (event : Event) (now : ℕ)
    → ReportsNow now self event new → StaysShown self new → Stands new → IsThere new
    → new.view ≡ Some view
    → (new.is_sure ≡ true) × ShowsEnd view new
    × ((new.memory.back ≤ 4) ⊎ ShowsLast view new.memory)
    × ((self.since + 300 ≤ now) ⊎ ((node : Node) × IsAt self node
    × (node.origin ≡ Origin.Start) × (node.depth ≡ 1)))

-- **What the board stands at is reported**, and nothing else: not another line, nor less. With it
-- the line ends once all that waits is reported.
abbrev pub ReportedIsNext : Type 0
ReportedIsNext =
    (self new : Recogniser) (event : Event) (now : ℕ) (step : Step)
    → ReportsNow now self event new → IsNext self step → coming new.memory ≡ Some step

-- Once all is reported, the board shows the line's last state then, what follows it, or a result.
abbrev pub LastIsShown : Type 0
LastIsShown =
    (self : Recogniser) (view : View) → ShowsEnd view self → Stands self → IsTold self.memory
    → ((step : Step) × (last_of self.memory ≡ Some step) × Shows view step)
    ⊎ ShowsAnswer view self.memory
    ⊎ ((step : Step) × ((result : GameResult) × Show self.view step result))

-- Half-moves that replace others than the last one have rested for three seconds, unless the board
-- has gone back over these, or the kings give a result.
abbrev pub ReplacingHasRested : Type 0
ReplacingHasRested =
    (self new : Recogniser) (event : Event) (now base : ℕ) (node : Node)
    → ReportsNow now self event new → self.has_kings ≡ false → IsAt self node
    → node.origin ≡ Origin.Line base → 2 ≤ base → base ≢ self.returned.count
    → self.since + 3000 ≤ now

-- **Nothing waits for long.** What the board stands at after the line's last states is reported
-- within ten seconds, sure and confirmed, unless pieces are lifted.
abbrev pub NothingWaitsLong : Type 0
NothingWaitsLong =
    (self : Recogniser) (view : View) (now base : ℕ) (node : Node) → Stands self → IsPlanned self
    → self.view ≡ Some view → self.is_sure ≡ true → self.is_confirmed ≡ true → IsIdle now self
    → self.since + 10000 ≤ now → IsAt self node → node.origin ≡ Origin.Line base → IsLifted self

-- **What is seen answers.** While half-moves wait that seeing it had reported, the board shows a
-- legal half-move more, but for pieces in hands.
abbrev pub SeenIsAnswered : Type 0
SeenIsAnswered =
    (self : Recogniser) (view : View) → Stands self → IsAnswered self.memory
    → self.view ≡ Some view → ¬ (IsTold self.memory)
    → (node : Node) × (self.memory.answer ≡ Some node) × (node.step.way ≢ Way.Begun)
    × ShowsAs view node

-- A line begins with what has rested for a second, and another one with what has for five.
abbrev pub BeginningHasRested : Type 0
BeginningHasRested =
    (self new : Recogniser) (event : Event) (now : ℕ) → ReportsNow now self event new
    → self.has_kings ≡ false → TaskFits self Task.Begin
    → (self.since + 1000 ≤ now) × (self.memory.line.items ≢ [] → self.since + 5000 ≤ now)

-- If there is nothing else to report, a result by kings has rested for a second.
abbrev pub KingsHaveRested : Type 0
KingsHaveRested =
    (self new : Recogniser) (event : Event) (now : ℕ) → ReportsNow now self event new
    → IsSettled self → self.since + 1000 ≤ now

-- While kings give a result, sure and confirmed, something is due after a second, unless a position
-- is to be reported or several half-moves were looked for.
abbrev pub KingsAreTaken : Type 0
KingsAreTaken =
    (self : Recogniser) (now : ℕ) → IsPlanned self → self.is_sure ≡ true
    → self.is_confirmed ≡ true → self.has_kings ≡ true → self.is_next ≡ false
    → self.search ≢ Search.Done → IsIdle now self → now < self.since + 1000

-- ---- What is remembered of what was shown

-- the board has gone back to an earlier state of the line for sure
abbrev pub HasGoneBack : ℕ → Recogniser → Type 0
HasGoneBack count self =
    (count ≢ 0) × (self.returned.count ≡ count) × (self.returned.is_sure ≡ true)

-- The line's last state is shown for sure. What was seen since counts as not made, no king as
-- lifted, nothing as set up and no doubt as left. A line that was lost is found.
abbrev pub StandsAnew : Recogniser → Type 0
StandsAnew self =
    (self.memory.seen.items ≡ []) × (self.is_behind ≡ false) × (self.is_astray ≡ false)
    × (self.is_set_up ≡ false)
    × (self.is_white_king_lifted ≡ false) × (self.is_black_king_lifted ≡ false)
    × (self.lost ≢ Lost.Reported)

-- the board stands for sure at the line's last state
abbrev pub IsSureOfLast : Recogniser → Type 0
IsSureOfLast self = (self.is_sure ≡ true) × (self.here ≡ Place.Line 0)

-- until it does, it is remembered that something wasn't seen, or that nothing led to what rested
abbrev pub RemembersDoubt : Recogniser → Recogniser → Type 0
RemembersDoubt old new =
    ((new.is_behind ≡ old.is_behind) × (new.is_astray ≡ old.is_astray)) ⊎ IsSureOfLast new

-- Nothing leads to what is shown, though it has rested for 320 ms and no pieces are lifted. Once a
-- line has a result, that counts only after a doubt, and far from its last state.
abbrev pub IsUnexplained : ℕ → Recogniser → Type 0
IsUnexplained now self =
    (self.here ≡ Place.Nowhere) × (self.since + 320 ≤ now)
    × ((self.over ≡ Over.No) ⊎ ((self.is_behind ≡ true) × IsFar self)) × ¬ (IsLifted self)

-- both kings stand, and none of them in the centre
abbrev pub KingsStand : List Piece → Type 0
KingsStand picture =
    ((colour : Colour) → HasKing picture colour)
    × ((square : ℕ) → IsCentre square → ¬ (IsKing (piece_at picture square)))

-- That is so if and only if each king stands somewhere, and no king in the middle.
abbrev pub KingsAreOutside : Type 0
KingsAreOutside =
    (picture : List Piece)
    → KingsStand picture ↔ (((colour : Colour) → HasKing picture colour)
    × ((square : ℕ) (colour : Colour) → piece_at picture square ≡ piece_of colour Man.King
    → ¬ ((3 ≤ file square) × (file square ≤ 4) × (3 ≤ row square) × (row square ≤ 4))))

-- nothing leads to what has rested before the kings are put in the centre
abbrev pub GoesAstray : ℕ → Recogniser → Type 0
GoesAstray now self =
    IsUnexplained now self × MatchOption self.view ⊥ (λ view. KingsStand (pieces_of view.shown))

-- ---- How long half-moves rest

-- the clock of the player who made the half-move still runs, though the other one can move
abbrev pub IsNotPressed : Recogniser → Node → Type 0
IsNotPressed self node =
    (self.running ≡ Some (other node.step.state.turn)) × CanMove node.step.state

-- Why half-moves after a state of the line rest for longer than 300 ms. Not all of them were shown,
-- or they may be half of a castling, or they replace others, or a clock isn't pressed. For ten
-- seconds they rest if they were faster than hands, or are in no certain order.
abbrev pub CallsForRest : Recogniser → Node → ℕ → ℕ → Type 0
CallsForRest self node base wait =
    (wait ≡ 300) ⊎ ((wait ≡ 1000) × (node.jumps ≡ true)) ⊎ (wait ≡ 2000)
    ⊎ ((wait ≡ 3000) × (((2 ≤ base) × (base ≢ self.returned.count))
    ⊎ ((base ≡ 0) × IsNotPressed self node)))
    ⊎ (wait ≡ 10000)
