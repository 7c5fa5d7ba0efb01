-- What a recogniser reports over whole runs.
use Rattle.std.specs.Prelude.{◌≡◌, ℕ, Bool, true, false, List, [], ◌∷◌, ◌++◌, Option, Some, Contains, map}
use Rattle.std.specs.List.{AllByRecursion}
use Rattle.dgt_values.specs.declared.pieces.Piece.{Piece}
use Rattle.dgt_chess.specs.declared.state.State.{State}
use Rattle.dgt_chess.specs.Rules.{IsStart, board}
use Rattle.dgt_game.specs.declared.event.{Event.{Event}, GameResult.{GameResult}}
use Rattle.dgt_game.specs.declared.observation.Sight.{Sight}
use Rattle.dgt_game.specs.declared.recogniser.Recogniser.{Recogniser}
use Rattle.dgt_game.specs.Told.{IsLegalTold, IsShown, Told, WasShown, as_shown}
use Rattle.dgt_game.specs.Memory.{IsTold}
use Rattle.dgt_game.specs.Recogniser.{GoesOn, Knows, Reports, Sees, new_recogniser, shown_after}
use Rattle.dgt_game.specs.Planning.{IsPlanned}
use Rattle.dgt_game.specs.Results.{ByKings, KingsMean}
use Rattle.dgt_game.specs.declared.view.View.{View}
use Rattle.dgt_game.specs.Settling.{ReportsNow, ShowsEnd, StaysShown}
use Rattle.dgt_game.specs.Standing.{IsThere, Stands}
use Rattle.dgt_game.specs.Sure.{EndsSure, KnowsSure, SeesSure, StaysSure, sure_after}
use Rattle.dgt_game.specs.Staying.{after_step}
use Rattle.dgt_game.specs.declared.staying.TheConstants.{NONE_STAYS}
use Rattle.dgt_game.specs.Timing.{Marks}
use Rattle.dgt_game.specs.Waiting.{is_sure_sight}

-- A call that was done: what was seen, what was reported if anything, or what was gone on from.
pub data Call : Type 0 where
  See : (sight : Sight) → Call
  Due : (report : Option Event) → Call
  GoOn : (state : State) (is_turned : Bool) → Call

-- what is planned, and where the board stands, is as it should be, whatever was shown and reported
abbrev pub StaysSound : Recogniser → Recogniser → Type 0
StaysSound old new =
    (shown : List (List Piece)) (line : List Told) → Knows shown line old → IsPlanned old
    → Stands old → IsPlanned new × Stands new

abbrev pub Does : Recogniser → Call → Recogniser → Type 0
Does old (Call.See sight) new =
    Sees old sight new × StaysSound old new × SeesSure old sight new
    × (new.staying ≡ old.staying)
Does old (Call.Due report) new =
    Reports old report new × StaysSound old new × ((shown : List (List Piece)) (line : List Told)
    → Knows shown line old → IsPlanned old → Stands old → StaysSure old new)
    × Marks old report new
Does old (Call.GoOn state is_turned) new =
    GoesOn state is_turned new × IsPlanned new × Stands new
    × KnowsSure (as_shown is_turned (board state) ∷ []) new
    × (new.staying ≡ after_step NONE_STAYS)

-- consecutive calls
abbrev pub Runs : Recogniser → List Call → Recogniser → Type 0
Runs old [] new = new ≡ old
Runs old (call ∷ calls) new = (next : Recogniser) × Does old call next × Runs next calls new

-- Each call is done, and consecutive runs are one.
abbrev pub CallsAreRuns : Type 0
CallsAreRuns =
    (old new : Recogniser)
    → ((sight : Sight) → Sees old sight new → StaysSound old new → SeesSure old sight new
    → new.staying ≡ old.staying → Does old (Call.See sight) new)
    × ((report : Option Event) → Reports old report new → StaysSound old new
    → ((shown : List (List Piece)) (line : List Told) → Knows shown line old → IsPlanned old
    → Stands old → StaysSure old new) → Marks old report new → Does old (Call.Due report) new)
    × ((state : State) (is_turned : Bool) → GoesOn state is_turned new → IsPlanned new → Stands new
    → KnowsSure (as_shown is_turned (board state) ∷ []) new
    → new.staying ≡ after_step NONE_STAYS → Does old (Call.GoOn state is_turned) new)
    × ((call : Call) → Does old call new → Runs old (call ∷ []) new)
    × ((mid : Recogniser) (calls more : List Call) → Runs old calls mid → Runs mid more new
    → Runs old (calls ++ more) new)

-- The pictures shown, after these. A state that a line goes on from counts as shown.
abbrev pub shown_in : List (List Piece) → List Call → List (List Piece)
shown_in shown [] = shown
shown_in shown (Call.See sight ∷ calls) = shown_in (shown_after sight shown) calls
shown_in shown (Call.Due report ∷ calls) = shown_in shown calls
shown_in shown (Call.GoOn state is_turned ∷ calls) =
    shown_in (as_shown is_turned (board state) ∷ shown) calls

-- those shown for sure
abbrev pub sure_in : List (List Piece) → List Call → List (List Piece)
sure_in sure [] = sure
sure_in sure (Call.See sight ∷ calls) = sure_in (sure_after sight sure) calls
sure_in sure (Call.Due report ∷ calls) = sure_in sure calls
sure_in sure (Call.GoOn state is_turned ∷ calls) =
    sure_in (as_shown is_turned (board state) ∷ sure) calls

-- The events reported. A line that goes on from a state begins there.
abbrev pub events_of : List Call → List Event
events_of [] = []
events_of (Call.Due (Some event) ∷ calls) = event ∷ events_of calls
events_of (Call.GoOn state is_turned ∷ calls) = Event.Begun state is_turned ∷ events_of calls
events_of (call ∷ calls) = events_of calls

-- **What is reported is legal, and was shown.** Whatever is seen and whenever a recogniser is
-- asked, its events in turn are legal, and lead to a line whose positions were shown before. Once
-- nothing of it waits, its last state was shown for sure.
abbrev pub IsLegalAndShown : Type 0
IsLegalAndShown =
    (calls : List Call) (ended : Recogniser) → Runs new_recogniser calls ended
    → (line : List Told) × IsLegalTold [] (events_of calls) line
    × IsShown (shown_in [] calls) line × (IsTold ended.memory → EndsSure (sure_in [] calls) line)

-- **Reports come in the order in which positions are shown**, if nothing waited. What the line had
-- ended with was shown for sure before. What it ends with once all is reported stands on the board
-- now, or what answers that, or a result.
abbrev pub ReportedInOrder : Type 0
ReportedInOrder =
    (calls : List Call) (self new : Recogniser) (view : View) (event : Event) (now : ℕ)
    → Runs new_recogniser calls self → ReportsNow now self event new → StaysShown self new
    → Stands new → IsThere new → new.view ≡ Some view
    → ((line : List Told) × IsLegalTold [] (events_of calls) line
    × EndsSure (sure_in [] calls) line) × (new.is_sure ≡ true) × ShowsEnd view new

-- ---- What was shown for sure

-- What is seen counts as shown for sure if and only if it is sure.
abbrev pub SureIsSeen : Type 0
SureIsSeen =
    (sight : Sight) (sure : List (List Piece))
    → (is_sure_sight sight ≡ true → sure_after sight sure ≡ shown_after sight sure)
    × (is_sure_sight sight ≡ false → sure_after sight sure ≡ sure)

-- So what was seen in doubts adds nothing, and if all was sure, it is all that was shown.
abbrev pub SureIsCounted : Type 0
SureIsCounted =
    (sights : List Sight) (sure : List (List Piece))
    → (AllByRecursion (λ sight. is_sure_sight sight ≡ false) sights
    → sure_in sure (map Call.See sights) ≡ sure)
    × (AllByRecursion (λ sight. is_sure_sight sight ≡ true) sights
    → sure_in sure (map Call.See sights) ≡ shown_in sure (map Call.See sights))

-- It was shown.
abbrev pub SureWasShown : Type 0
SureWasShown =
    (calls : List Call) (picture : List Piece) → Contains (sure_in [] calls) picture
    → Contains (shown_in [] calls) picture

-- If no kings gave a result, the last state itself was shown for sure.
abbrev pub LastWasShown : Type 0
LastWasShown =
    (sure : List (List Piece)) (told : Told) (line : List Told) → EndsSure sure (told ∷ line)
    → ((picture : List Piece) (result : GameResult) → Contains sure picture
    → ¬ (KingsMean (as_shown told.is_turned picture) result))
    → WasShown sure told

-- Without pictures shown for sure, the line has only the state in which games begin.
abbrev pub NothingWasSure : Type 0
NothingWasSure =
    (told : Told) (line : List Told) → EndsSure [] (told ∷ line)
    → (told.halves ≡ 0) × IsStart told.state

-- A state that was shown for sure may end a line, and so may one whose result the kings showed.
abbrev pub ShownMayEnd : Type 0
ShownMayEnd =
    (sure : List (List Piece)) (told : Told) (line : List Told)
    → (WasShown sure told → EndsSure sure (told ∷ line))
    × ((picture : List Piece) (result : GameResult) → Contains sure picture
    → ByKings (as_shown told.is_turned picture) told.state result → EndsSure sure (told ∷ line))
