-- What is done next with what the board shows, or why nothing is.
use Rattle.std.specs.Prelude.{⊤, ◌≡◌, ◌≢◌, ◌<◌, ◌≤◌, ◌↔◌, ◌⊎◌, ◌+◌, ℕ, Bool, true, false, List, [], IsTrue, MatchOption, count_by, nat_eq, not, zip, Option, Some, None, slice_get}
use Rattle.dgt_values.specs.declared.pieces.Piece.{Piece}
use Rattle.dgt_values.specs.Board.{pieces_of, piece_code}
use Rattle.dgt_chess.specs.declared.possible.Rights.{Rights}
use Rattle.dgt_chess.specs.declared.state.State.{State}
use Rattle.dgt_chess.specs.declared.pieces.Colour.{Colour}
use Rattle.dgt_chess.specs.declared.pieces.Man.{Man}
use Rattle.dgt_chess.specs.Attacks.{other, piece_at, piece_of}
use Rattle.dgt_chess.specs.Rules.{board}
use Rattle.dgt_game.specs.declared.event.GameResult.{GameResult}
use Rattle.dgt_game.specs.declared.memory.Memory.{Memory}
use Rattle.dgt_game.specs.declared.node.Origin.{Origin}
use Rattle.dgt_game.specs.declared.node.Place.{Place}
use Rattle.dgt_game.specs.declared.node.Step.{Step}
use Rattle.dgt_game.specs.declared.recogniser.Lost.{Lost}
use Rattle.dgt_game.specs.declared.recogniser.Over.{Over}
use Rattle.dgt_game.specs.declared.recogniser.Recogniser.{Recogniser}
use Rattle.dgt_game.specs.declared.recogniser.Search.{Search}
use Rattle.dgt_game.specs.declared.resting.Next.{Next}
use Rattle.dgt_game.specs.declared.resting.Task.{Task}
use Rattle.dgt_game.specs.declared.view.View.{View}
use Rattle.dgt_game.specs.Told.{as_shown}
use Rattle.dgt_game.specs.Memory.{IsTold, steps}
use Rattle.dgt_game.specs.Results.{IsAlmost, StandsAs}
use Rattle.dgt_game.specs.Waiting.{IsQuiet, Show, last_of}

-- each square shows the state's piece, or is empty
abbrev pub LacksOnly : List Piece → State → Type 0
LacksOnly picture state =
    (square : ℕ) → square < 64 → (piece_at picture square ≡ piece_at (board state) square)
    ⊎ (piece_at picture square ≡ Piece.Empty)

-- some of the state's pieces are gone, and no others are shown
abbrev pub LacksSome : List Piece → State → Type 0
LacksSome picture state = LacksOnly picture state × (picture ≢ board state)

-- the line's last step, or one that was seen since
abbrev pub IsKnown : Memory → Step → Type 0
IsKnown self step =
    (last_of self ≡ Some step) ⊎ ((k : ℕ) × (slice_get (steps self.seen.items) k ≡ Some step))

-- What is shown lacks pieces of one of these, or of the state of the line to which the board went
-- back, and shows all else of it.
unfoldable pub Lacks : Option View → Memory → ℕ → Type 0
Lacks view memory back =
    (shown : View) × (view ≡ Some shown) × ((step : Step)
    × (IsKnown memory step ⊎ (slice_get (steps memory.line.items) back ≡ Some step))
    × LacksSome (as_shown step.is_turned (pieces_of shown.shown)) step.state)

abbrev pub IsLifted : Recogniser → Type 0
IsLifted self = Lacks self.view self.memory self.returned.count

-- how many squares show other pieces
abbrev pub differing : List Piece → List Piece → ℕ
differing picture pieces =
    count_by (λ pair. not (nat_eq (piece_code pair.0) (piece_code pair.1))) (zip picture pieces)

-- more than 24 squares of what is shown differ from the line's last state
unfoldable pub IsFarFrom : Option View → Option Step → Type 0
IsFarFrom view last =
    (shown : View) × (view ≡ Some shown) × ((step : Step) × (last ≡ Some step)
    × (24 < differing (as_shown step.is_turned (pieces_of shown.shown)) (board step.state)))

abbrev pub IsFar : Recogniser → Type 0
IsFar self = IsFarFrom self.view (last_of self.memory)

-- No line begins with what is shown, however long it rests: the one before has ended, and nothing
-- was set up. After a doubt, what is shown is near its last state.
abbrev pub MayNotBegin : Recogniser → Type 0
MayNotBegin self =
    (self.memory.line.items ≢ []) × (self.over ≢ Over.No) × (self.is_set_up ≡ false)
    × ((self.is_behind ≡ false) ⊎ ¬ (IsFar self))

-- the board shows almost the line's last state
abbrev pub IsAlmostLast : Memory → View → Type 0
IsAlmostLast self view =
    MatchOption (last_of self) ⊥ (λ step. IsAlmost (as_shown step.is_turned (pieces_of view.shown))
    (board step.state))

-- a square outside the centre shows another piece than the state, which isn't a king there
abbrev pub IsOther : View → Step → ℕ → Type 0
IsOther view step square =
    (square < 64) × ¬ (StandsAs (as_shown step.is_turned (pieces_of view.shown))
    (board step.state) square)

-- what may be done with what is shown
abbrev pub TaskFits : Recogniser → Task → Type 0
TaskFits self Task.EndByKings = self.has_kings ≡ true
TaskFits self Task.Search =
    (self.here ≡ Place.Nowhere) × (self.search ≡ Search.Waiting) × (self.is_next ≡ false)
TaskFits self Task.Tell = self.is_next ≡ true
TaskFits self Task.Begin =
    (self.here ≡ Place.Nowhere) × (self.search ≡ Search.Done) × (self.is_next ≡ false)

-- There is nothing to report of the position: it was reported, nothing will come of it, or nothing
-- leads to it and no line begins with it.
abbrev pub IsSettled : Recogniser → Type 0
IsSettled self =
    (self.is_next ≡ false)
    × ((self.here ≢ Place.Nowhere) ⊎ (self.search ≡ Search.Hopeless)
    ⊎ (self.search ≡ Search.Refused)
    ⊎ ((self.search ≡ Search.Done) × (IsLifted self ⊎ MayNotBegin self)))

-- nor do the kings give a result
abbrev pub HasNothing : Recogniser → Type 0
HasNothing self = (self.has_kings ≡ false) × IsSettled self

-- how long it takes until several half-moves are looked for, in a doubt and without
abbrev pub search_wait : Bool → ℕ
search_wait true = 320
search_wait false = 1000

-- How long a position that nothing leads to rests before a line begins with it: a second if there
-- is no line yet. Else it is five if pieces were set up or something wasn't seen, or a minute.
-- After a result, one begins only with a set-up or, if something wasn't seen, far from the last
-- state.
abbrev pub BeginsAfter : Recogniser → ℕ → Type 0
BeginsAfter self wait =
    (self.memory.line.items ≡ [] → wait ≡ 1000)
    × (self.memory.line.items ≢ [] → (self.is_set_up ≡ true) ⊎ ((self.is_behind ≡ true)
    × ((self.over ≡ Over.No) ⊎ IsFar self)) → wait ≡ 5000)
    × (self.memory.line.items ≢ [] → self.is_set_up ≡ false → self.is_behind ≡ false
    → (wait ≡ 60000) × (self.over ≡ Over.No))
    × (self.memory.line.items ≢ [] → self.over ≢ Over.No
    → (self.is_set_up ≡ true) ⊎ ((self.is_behind ≡ true) × IsFar self))

-- How long half-moves that follow a state of the line rest before they are reported: 3 s if they
-- replace others than the last one, unless the board has gone back over these.
abbrev pub RestsAfter : ℕ → ℕ → ℕ → Type 0
RestsAfter base returned wait =
    (300 ≤ wait) × (wait ≤ 10000) × (2 ≤ base → base ≢ returned → 3000 ≤ wait)

-- the same of other half-moves, too. The start of a game needs no rest, and what follows it 300 ms.
abbrev pub RestsBy : Origin → ℕ → ℕ → ℕ → Type 0
RestsBy (Origin.Line base) depth returned wait = RestsAfter base returned wait
RestsBy Origin.Start depth returned wait =
    ((depth ≡ 1) × (wait ≡ 0)) ⊎ ((depth ≢ 1) × (wait ≡ 300))
RestsBy Origin.Shadow depth returned wait = 300 ≤ wait

-- the same of what is at a place
abbrev pub RestsAt : Place → Memory → ℕ → ℕ → Type 0
RestsAt (Place.Seen k) memory returned wait =
    MatchOption (slice_get memory.seen.items k) (300 ≤ wait)
    (λ node. RestsBy node.origin node.depth returned wait)
RestsAt place memory returned wait = 300 ≤ wait

-- how long what is shown rests before something is done
abbrev pub RestsBefore : Recogniser → Task → ℕ → Type 0
RestsBefore self Task.EndByKings wait = wait ≡ 1000
RestsBefore self Task.Search wait = wait ≡ search_wait self.is_behind
RestsBefore self Task.Tell wait = RestsAt self.here self.memory self.returned.count wait
RestsBefore self Task.Begin wait =
    (1000 ≤ wait) × (self.memory.line.items ≢ [] → 5000 ≤ wait) × BeginsAfter self wait

-- what is done next, and when
abbrev pub FitsNext : Recogniser → Next → Type 0
FitsNext self next = TaskFits self next.task × RestsBefore self next.task next.wait

abbrev pub Plans : Recogniser → Option Next → Type 0
Plans self None = (self.is_confirmed ≡ false) ⊎ HasNothing self
Plans self (Some next) = FitsNext self next

-- what is done next is planned, or nothing is to be done
abbrev pub IsPlanned : Recogniser → Type 0
IsPlanned self = Plans self self.next

-- that the line is lost was reported, or is to be
abbrev pub SaysLost : Lost → Type 0
SaysLost Lost.No = ⊥
SaysLost (Lost.Now squares) = ⊤
SaysLost Lost.Reported = ⊤
SaysLost Lost.Found = ⊥

-- the line is lost, has ended or hasn't begun, or pieces of it are lifted
abbrev pub LosesLine : Recogniser → Type 0
LosesLine self =
    SaysLost self.lost ⊎ (self.over ≢ Over.No) ⊎ IsLifted self ⊎ (self.memory.line.items ≡ [])

-- the same once several half-moves were looked for, and none lead to what is shown
abbrev pub IsLostOr : Recogniser → Type 0
IsLostOr self =
    self.view ≢ None → self.here ≡ Place.Nowhere → self.search ≡ Search.Done
    → IsTold self.memory × (self.ended ≡ None) × LosesLine self

-- a king of the colour stands somewhere
abbrev pub HasKing : List Piece → Colour → Type 0
HasKing pieces colour =
    (square : ℕ) × (square < 64) × (piece_at pieces square ≡ piece_of colour Man.King)

-- no state has these pieces and this side to move
abbrev pub IsRefused : List Piece → Colour → Type 0
IsRefused pieces turn = (state : State) → board state ≡ pieces → state.turn ≢ turn

-- a side isn't to move: the other one's clock runs, or no state is so
abbrev pub CannotMove : Option Colour → Bool → View → Colour → Type 0
CannotMove running is_turned view turn =
    (running ≡ Some (other turn)) ⊎ IsRefused (as_shown is_turned (pieces_of view.shown)) turn

-- no line can begin with what is shown while this clock runs
abbrev pub CannotBegin : Option Colour → View → Type 0
CannotBegin running view =
    (is_turned : Bool) × ((turn : Colour) → CannotMove running is_turned view turn)

-- why nothing will come of what is shown: a king is missing, or the players show a result; or no
-- line can begin with it
abbrev pub WhyHopeless : Recogniser → Type 0
WhyHopeless self =
    (view : View) → self.view ≡ Some view → self.here ≡ Place.Nowhere
    → (self.search ≡ Search.Hopeless
    → ((colour : Colour) × ¬ (HasKing (pieces_of view.shown) colour))
    ⊎ ((step : Step) × ((result : GameResult) × Show self.view step result)))
    × (self.search ≡ Search.Refused → CannotBegin self.running view)

-- ---- Laws

-- Of what is done with the position, one thing fits at most.
abbrev pub OneFits : Type 0
OneFits =
    (self : Recogniser) → ¬ (TaskFits self Task.Search × TaskFits self Task.Begin)
    × ¬ (TaskFits self Task.Tell × (TaskFits self Task.Search ⊎ TaskFits self Task.Begin))

-- If there is nothing to do, no task fits, or a line would begin that may not.
abbrev pub NothingFits : Type 0
NothingFits =
    (self : Recogniser) (task : Task) → HasNothing self → TaskFits self task
    → (task ≡ Task.Begin) × (IsLifted self ⊎ MayNotBegin self)

-- Of a line that goes on, it is reported that nothing leads on from it.
abbrev pub LostIsReported : Type 0
LostIsReported =
    (self : Recogniser) → IsLostOr self → self.view ≢ None → self.here ≡ Place.Nowhere
    → self.search ≡ Search.Done → IsQuiet self → self.over ≡ Over.No
    → self.memory.line.items ≢ [] → ¬ (IsLifted self) → self.lost ≡ Lost.Reported

-- A position with both kings is hopeless only if they show a result.
abbrev pub PossibleIsHopeful : Type 0
PossibleIsHopeful =
    (self : Recogniser) (view : View) → WhyHopeless self → self.view ≡ Some view
    → self.here ≡ Place.Nowhere → self.search ≡ Search.Hopeless
    → ((colour : Colour) → HasKing (pieces_of view.shown) colour)
    → (step : Step) × ((result : GameResult) × Show self.view step result)

-- It isn't refused if a side can be to move, unless the other side's clock runs.
abbrev pub InTurnIsNotRefused : Type 0
InTurnIsNotRefused =
    (self : Recogniser) (view : View) (turn : Colour) → WhyHopeless self → self.view ≡ Some view
    → self.here ≡ Place.Nowhere → self.running ≢ Some (other turn)
    → ((is_turned : Bool) → (state : State)
    × (board state ≡ as_shown is_turned (pieces_of view.shown)) × (state.turn ≡ turn))
    → self.search ≢ Search.Refused

-- A line may begin: there is none, the last one has no result, pieces were set up, or the board was
-- away or in doubt and shows what is far from the last state.
abbrev pub MayBegin : Recogniser → Type 0
MayBegin self =
    (self.memory.line.items ≡ []) ⊎ (self.over ≡ Over.No) ⊎ (self.is_set_up ≡ true)
    ⊎ ((self.is_behind ≡ true) × IsFar self)

abbrev pub ElseMayBegin : Type 0
ElseMayBegin = (self : Recogniser) → MayNotBegin self ↔ (¬ (MayBegin self))

-- What counts as setting pieces up: both kings are off, and the line has no result, or more than
-- two squares differ from its last state, besides kings and the centre.
abbrev pub SetsUp : Recogniser → View → Type 0
SetsUp self view =
    ((colour : Colour) → ¬ (HasKing (pieces_of view.shown) colour))
    × ((self.over ≡ Over.No) ⊎ ¬ (IsAlmostLast self.memory view))

-- With both kings off, three squares outside the centre that show other pieces are a set-up.
abbrev pub MovingBothIsSettingUp : Type 0
MovingBothIsSettingUp =
    (self : Recogniser) (view : View) (step : Step) (first second third : ℕ)
    → last_of self.memory ≡ Some step
    → ((colour : Colour) → ¬ (HasKing (pieces_of view.shown) colour))
    → IsOther view step first → IsOther view step second → IsOther view step third
    → first ≢ second → first ≢ third → second ≢ third → SetsUp self view

-- It is far exactly if more than 24 squares differ from the last state.
abbrev pub FarIsCounted : Type 0
FarIsCounted =
    (self : Recogniser) (view : View) (step : Step) → self.view ≡ Some view
    → last_of self.memory ≡ Some step
    → IsFar self ↔ (24 < differing (as_shown step.is_turned (pieces_of view.shown))
    (board step.state))

-- Nothing is lifted if each known position stands whole, or another piece is shown somewhere.
abbrev pub LiftedIsGone : Type 0
LiftedIsGone =
    (self : Recogniser) (view : View) → self.view ≡ Some view
    → ((step : Step) → IsKnown self.memory step
    ⊎ (slice_get (steps self.memory.line.items) self.returned.count ≡ Some step)
    → (as_shown step.is_turned (pieces_of view.shown) ≡ board step.state)
    ⊎ ((square : ℕ) × (square < 64)
    × (piece_at (as_shown step.is_turned (pieces_of view.shown)) square ≢ Piece.Empty)
    × (piece_at (as_shown step.is_turned (pieces_of view.shown)) square
    ≢ piece_at (board step.state) square)))
    → ¬ (IsLifted self)

-- only for bodies

-- the same of the position, without the kings
abbrev pub PlansPosition : Recogniser → Option Next → Type 0
PlansPosition self None = (self.is_confirmed ≡ false) ⊎ IsSettled self
PlansPosition self (Some next) = FitsNext self next

-- how many tasks may follow, at most
abbrev pub of_kings : Bool → ℕ
of_kings true = 1
of_kings false = 0

abbrev pub of_search : Search → ℕ
of_search Search.Waiting = 1
of_search Search.Done = 0
of_search Search.Refused = 0
of_search Search.Hopeless = 0

abbrev pub of_place : Bool → Place → Search → ℕ
of_place true here search = 1
of_place false (Place.Line k) search = 0
of_place false (Place.Seen k) search = 0
of_place false Place.Nowhere Search.Waiting = 1
of_place false Place.Nowhere Search.Done = 1
of_place false Place.Nowhere Search.Refused = 0
of_place false Place.Nowhere Search.Hopeless = 0

abbrev pub todo : Recogniser → ℕ
todo self =
    of_kings self.has_kings + of_search self.search + of_place self.is_next self.here self.search

-- the same may follow
abbrev pub IsAsBefore : Recogniser → Recogniser → Type 0
IsAsBefore old new =
    (new.has_kings ≡ old.has_kings) × (new.search ≡ old.search) × (new.is_next ≡ old.is_next)
    × (new.here ≡ old.here)

-- no search follows that didn't before, and no result by kings
abbrev pub AddsNone : Recogniser → Recogniser → Type 0
AddsNone old new =
    (new.search ≡ old.search) × (new.has_kings ≡ true → old.has_kings ≡ true)

-- if the board isn't anywhere after it, nothing was found or is to be reported
abbrev pub PlacesOr : Recogniser → Recogniser → Type 0
PlacesOr old new =
    new.here ≡ Place.Nowhere → (old.lost ≢ Lost.Found → new.lost ≢ Lost.Found)
    × (IsTold old.memory → IsTold new.memory)

-- the board isn't anywhere only if it was so before
abbrev pub StaysPlaced : Recogniser → Recogniser → Type 0
StaysPlaced old new =
    (new.view ≡ old.view) × (new.search ≡ old.search)
    × (new.here ≡ Place.Nowhere → old.here ≡ Place.Nowhere) × (new.running ≡ old.running)

-- the board stands at the line's last state, and no more is reported of it
abbrev pub IsAtLast : Recogniser → Recogniser → Type 0
IsAtLast old new =
    (new.has_kings ≡ false) × (new.search ≡ old.search) × (new.is_next ≡ false)
    × (new.here ≡ Place.Line 0)

-- nothing will come of the position, or a line has begun with it
abbrev pub EndsSearch : Recogniser → Recogniser → Type 0
EndsSearch old new =
    ((new.search ≡ Search.Refused) × (new.has_kings ≡ old.has_kings)
    × (new.is_next ≡ old.is_next))
    ⊎ IsAtLast (record old { search = Search.Refused }) new

-- several half-moves are looked for after 320 ms, whether or not what is shown is confirmed
abbrev pub SearchesSoon : Recogniser → Type 0
SearchesSoon self = TaskFits self Task.Search × (self.is_behind ≡ true)

-- king and rook are at home
abbrev pub AreHome : List Piece → Colour → ℕ → ℕ → Type 0
AreHome pieces colour home corner =
    (piece_at pieces home ≡ piece_of colour Man.King)
    × (piece_at pieces corner ≡ piece_of colour Man.Rook)

-- castlings are allowed wherever they are
abbrev pub CastleFromHome : List Piece → Rights → Type 0
CastleFromHome pieces rights =
    (IsTrue rights.white_short ↔ AreHome pieces Colour.White 60 63)
    × (IsTrue rights.white_long ↔ AreHome pieces Colour.White 60 56)
    × (IsTrue rights.black_short ↔ AreHome pieces Colour.Black 4 7)
    × (IsTrue rights.black_long ↔ AreHome pieces Colour.Black 4 0)

-- pieces that were set up, before the first half-move
abbrev pub IsSetUp : State → Type 0
IsSetUp state =
    (state.number ≡ 1) × (state.half_moves ≡ 0) × (state.passed ≡ None)
    × CastleFromHome (board state) state.rights
