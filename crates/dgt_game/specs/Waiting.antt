-- What waits to be reported of results and of lost lines.
use Rattle.std.specs.Prelude.{◌≡◌, ◌≢◌, ◌⊎◌, ⊤, ℕ, Bool, true, false, List, [], ◌∷◌, Option, Some, None, IfSome, MatchOption, slice_get}
use Rattle.dgt_values.specs.Board.{DifferingSquares, pieces_of}
use Rattle.dgt_chess.specs.Rules.{CanMove, board}
use Rattle.dgt_game.specs.declared.event.Event.{Event}
use Rattle.dgt_game.specs.declared.event.GameResult.{GameResult}
use Rattle.dgt_game.specs.declared.memory.Memory.{Memory}
use Rattle.dgt_game.specs.declared.observation.Sight.{Sight}
use Rattle.dgt_game.specs.declared.node.Step.{Step}
use Rattle.dgt_game.specs.declared.node.Way.{Way}
use Rattle.dgt_game.specs.declared.recogniser.Lost.{Lost}
use Rattle.dgt_game.specs.declared.recogniser.Over.{Over}
use Rattle.dgt_game.specs.declared.recogniser.Recogniser.{Recogniser}
use Rattle.dgt_game.specs.declared.view.View.{View}
use Rattle.dgt_game.specs.Memory.{IsTold, steps, tip}
use Rattle.dgt_game.specs.Results.{AreLost, ByKings, ByRules, HasResult, HasResults, IsLost, NotFound}
use Rattle.dgt_game.specs.Told.{as_shown}

-- the line's last state, and the last one once all that waits is reported
abbrev pub last_of : Memory → Option Step
last_of memory = slice_get (steps memory.line.items) 0

abbrev pub coming : Memory → Option Step
coming memory = tip (slice_get (steps memory.line.items) memory.back) (steps memory.unsaid.items)

-- the players show the result of a state on the board
unfoldable pub Show : Option View → Step → GameResult → Type 0
Show view step result =
    (shown : View) × (view ≡ Some shown)
    × ByKings (as_shown step.is_turned (pieces_of shown.shown)) step.state result

-- what is shown differs from the line's last state on these squares
unfoldable pub Differs : Option View → Option Step → ℕ → Type 0
Differs view last squares =
    (step : Step) × (last ≡ Some step) × ((shown : View) × (view ≡ Some shown)
    × DifferingSquares (board step.state) (as_shown step.is_turned (pieces_of shown.shown))
    squares)

-- how a line ends with a state
abbrev pub EndsBy : Over → Option View → Step → GameResult → Type 0
EndsBy Over.No view step result = ⊥
EndsBy (Over.Rules since) view step result = ByRules step.state result
EndsBy Over.Kings view step result = Show view step result

abbrev pub EndWaits : Recogniser → Type 0
EndWaits self =
    IfSome self.ended (λ end. (step : Step) × (coming self.memory ≡ Some step)
    × EndsBy end.1 self.view step end.0)

abbrev pub LostBy : Lost → Option View → Option Step → Type 0
LostBy (Lost.Now squares) view last = Differs view last squares
LostBy lost view last = ⊤

abbrev pub LostWaits : Recogniser → Type 0
LostWaits self = LostBy self.lost self.view (last_of self.memory)

-- that the line was lost was reported
abbrev pub is_lost : Lost → Bool
is_lost Lost.No = false
is_lost (Lost.Now squares) = false
is_lost Lost.Reported = true
is_lost Lost.Found = true

-- the line is lost once that is reported which waits of it
abbrev pub stays_lost : Lost → Bool
stays_lost Lost.No = false
stays_lost (Lost.Now squares) = true
stays_lost Lost.Reported = true
stays_lost Lost.Found = false

-- a line of which half-moves or a result wait isn't lost then
abbrev pub LossEnds : Recogniser → Type 0
LossEnds self =
    (IsTold self.memory × (self.ended ≡ None)) ⊎ (stays_lost self.lost ≡ false)

-- what waits is right
abbrev pub Waits : Recogniser → Type 0
Waits self = EndWaits self × LostWaits self × LossEnds self

-- what an event reports is right, with the line and the board as they are after it: a result is of
-- a line that isn't lost
abbrev pub IsRight : Recogniser → Event → Type 0
IsRight self (Event.Ended result) =
    (step : Step) × (last_of self.memory ≡ Some step)
    × (ByRules step.state result ⊎ Show self.view step result) × (is_lost self.lost ≡ false)
IsRight self (Event.Lost squares) = Differs self.view (last_of self.memory) squares
IsRight self event = ⊤

-- a result was reported
abbrev pub has_result : Over → Bool
has_result Over.No = false
has_result (Over.Rules since) = true
has_result Over.Kings = true

-- an event follows what was reported before
abbrev pub Follows : Recogniser → Option Event → Recogniser → Type 0
Follows self None new =
    (has_result new.over ≡ has_result self.over) × (is_lost new.lost ≡ is_lost self.lost)
Follows self (Some event) new =
    HasResult (has_result self.over) event (has_result new.over)
    × IsLost (is_lost self.lost) event (is_lost new.lost)

-- that the line was lost or found is to be reported
abbrev pub has_notice : Lost → Bool
has_notice Lost.No = false
has_notice (Lost.Now squares) = true
has_notice Lost.Reported = false
has_notice Lost.Found = true

-- nothing waits
abbrev pub IsQuiet : Recogniser → Type 0
IsQuiet self =
    IsTold self.memory × (has_notice self.lost ≡ false) × (self.ended ≡ None)

-- ---- Laws

-- consecutive calls, each with what it reports
abbrev pub FollowOn : Recogniser → List (Option Event) → Recogniser → Type 0
FollowOn self [] new = new ≡ self
FollowOn self (report ∷ reports) new =
    (next : Recogniser) × Follows self report next × FollowOn next reports new

abbrev pub CallsFollowOn : Type 0
CallsFollowOn =
    (old mid new : Recogniser) (report : Option Event) (reports : List (Option Event))
    → Follows old report mid → FollowOn mid reports new → FollowOn old (report ∷ reports) new

abbrev pub events_in : List (Option Event) → List Event
events_in [] = []
events_in (None ∷ reports) = events_in reports
events_in (Some event ∷ reports) = event ∷ events_in reports

-- Over a whole run, a line has at most one result, and is lost and found in turn.
abbrev pub RunsInTurn : Type 0
RunsInTurn =
    (old new : Recogniser) (reports : List (Option Event)) → FollowOn old reports new
    → HasResults (has_result old.over) (events_in reports) (has_result new.over)
    × AreLost (is_lost old.lost) (events_in reports) (is_lost new.lost)

-- Between a loss and a result, the line is found.
abbrev pub ResultIsFound : Type 0
ResultIsFound =
    (old mid new : Recogniser) (reports : List (Option Event)) (squares : ℕ) (result : GameResult)
    → FollowOn old (Some (Event.Lost squares) ∷ reports) mid
    → Follows mid (Some (Event.Ended result)) new → IsRight new (Event.Ended result)
    → ¬ (NotFound (events_in reports))

-- While the board is away, only a result by the rules is right, and no line is lost.
abbrev pub RightIfAway : Type 0
RightIfAway =
    (self : Recogniser) → self.view ≡ None
    → ((result : GameResult) → IsRight self (Event.Ended result)
    → (step : Step) × (last_of self.memory ≡ Some step) × ¬ (CanMove step.state))
    × ((squares : ℕ) → ¬ (IsRight self (Event.Lost squares)))

-- what is seen shows pieces for sure
abbrev pub is_sure_sight : Sight → Bool
is_sure_sight (Sight.Sure position) = true
is_sure_sight (Sight.Doubted position) = false
is_sure_sight Sight.Away = false

-- only for bodies

-- results and the times are as they were, and what waits of a lost line is right
abbrev pub Keeps : Recogniser → Recogniser → Type 0
Keeps self new =
    (new.view ≡ self.view) × (new.over ≡ self.over) × (new.ended ≡ self.ended)
    × (is_lost new.lost ≡ is_lost self.lost) × (LostWaits self → LostWaits new)
    × (new.since ≡ self.since) × (new.is_sure ≡ self.is_sure)
    × (new.sure_since ≡ self.sure_since) × (new.changed ≡ self.changed)
    × (new.staying ≡ self.staying)

-- half-moves of a line wait only once it isn't lost any more
abbrev pub FindsLine : Recogniser → Recogniser → Type 0
FindsLine self new = IsTold self.memory → IsTold new.memory ⊎ (stays_lost new.lost ≡ false)

-- an event of the line
abbrev pub IsOfLine : Event → Type 0
IsOfLine (Event.Ended result) = ⊥
IsOfLine (Event.Lost squares) = ⊥
IsOfLine Event.Found = ⊥
IsOfLine event = ⊤

-- both kings were lifted, and what the board shows means a result
abbrev pub BothKingsMean : Recogniser → View → Type 0
BothKingsMean self view =
    (self.is_white_king_lifted ≡ true) × (self.is_black_king_lifted ≡ true)
    × ((step : Step) × ((result : GameResult)
    × ByKings (as_shown step.is_turned (pieces_of view.shown)) step.state result))

-- a line has come to a state with no legal move
abbrev pub MustEnd : Step → Type 0
MustEnd step = (step.way ≢ Way.Begun) × ¬ (CanMove step.state)

-- it is a mate or a stalemate
abbrev pub EndsByRules : ℕ → Step → Option (GameResult × Over) → Type 0
EndsByRules since step end =
    MatchOption end ⊥ (λ end. (end.1 ≡ Over.Rules since) × ByRules step.state end.0)
