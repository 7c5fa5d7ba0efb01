-- When something is done, however often `due` is called.
use Rattle.std.specs.Prelude.{◌≡◌, ◌≢◌, ◌<◌, ◌≤◌, ◌+◌, ◌-◌, ◌^◌, ℕ, true, false, length, min, option_map, if◌then◌else◌, List, [], ◌∷◌, ◌++◌, Option, Some, None, IfSome, MatchOption}
use Rattle.std.specs.List.{AllByRecursion}
use Rattle.dgt_game.specs.declared.event.Event.{Event}
use Rattle.dgt_game.specs.declared.recogniser.Recogniser.{Recogniser}
use Rattle.dgt_game.specs.declared.node.{Place.{Place}, Step.{Step}}
use Rattle.dgt_game.specs.Memory.{IsRooted, IsTold, step_at, steps}
use Rattle.dgt_game.specs.Planning.{IsPlanned}
use Rattle.dgt_game.specs.Recogniser.{Reports, Stays}
use Rattle.dgt_game.specs.Staying.{Notes}
use Rattle.dgt_game.specs.Waiting.{Follows, IsQuiet, IsRight, Waits, coming, has_result}

-- when something is done next, though nothing waits to be reported
abbrev pub next_time : Recogniser → Option ℕ
next_time self =
    if self.is_sure then option_map (λ next. min (self.since + next.wait) (2 ^ 64 - 1)) self.next
    else None

-- nothing is due at a time
abbrev pub IsIdle : ℕ → Recogniser → Type 0
IsIdle now self = IsQuiet self × IfSome (next_time self) (λ at. now < at)

-- what is done next is due
abbrev pub HasTask : ℕ → Recogniser → Type 0
HasTask now self = MatchOption (next_time self) ⊥ (λ at. at ≤ now)

-- the board stands at a step that isn't the line's last, and it is to be reported
abbrev pub IsNext : Recogniser → Step → Type 0
IsNext self step =
    (self.is_next ≡ true) × (self.has_kings ≡ false) × (self.here ≢ Place.Line 0)
    × (step_at (steps self.memory.line.items) (steps self.memory.seen.items) self.here ≡ Some step)
    × IsRooted (length (steps self.memory.line.items)) (steps self.memory.seen.items)

-- the line ends with it once all that waits now is reported
abbrev pub TellsNext : Recogniser → Recogniser → Type 0
TellsNext old new =
    (step : Step) → IsNext old step → (coming new.memory ≡ Some step) × ¬ (IsTold new.memory)

-- What waits is reported. If nothing does, what is done next stays as it is.
abbrev pub Tells : Recogniser → Option Event → Recogniser → Type 0
Tells old report new =
    Reports old report new
    × (Waits old → Waits new × IfSome report (λ event. IsRight new event))
    × (Waits old → Follows old report new)
    × (report ≡ None → IsQuiet new × (next_time new ≡ next_time old))
    × (IsQuiet old → (report ≡ None) × (new ≡ old))
    × (report ≡ None → IsTold old.memory) × (coming new.memory ≡ coming old.memory)
    × Notes old report new

-- what is done next
abbrev pub Acts : Recogniser → Recogniser → Type 0
Acts old new =
    Stays old new × (IsQuiet old → Waits old → Waits new) × Follows old None new
    × (IsPlanned old → TellsNext old new) × (new.staying ≡ old.staying)

-- Some recogniser reports, after what a call of `due` did before. What is known of the line's steps
-- and whether it has a result was the same.
abbrev pub Marks : Recogniser → Option Event → Recogniser → Type 0
Marks old report new =
    (self : Recogniser) × (self.staying ≡ old.staying)
    × (has_result self.over ≡ has_result old.over) × Notes self report new

-- Each of these is done once it is due, until an event is reported or nothing is due.
abbrev pub DoneBy : ℕ → List Recogniser → Recogniser → Option Event → Recogniser → Type 0
DoneBy now [] old report new = Tells old report new × (report ≡ None → IsIdle now new)
DoneBy now (done ∷ later) old report new =
    (quiet : Recogniser) × Tells old None quiet × HasTask now quiet × Acts quiet done
    × DoneBy now later done report new

-- A call of `due` reports an event, or nothing. No step depends on the time.
abbrev pub Due : ℕ → Recogniser → Option Event → Recogniser → Type 0
Due now old report new = (done : List Recogniser) × DoneBy now done old report new

-- the events reported, with those after it
abbrev pub with_report : Option Event → List Event → List Event
with_report None later = later
with_report (Some event) later = event ∷ later

-- calls at these times report these events
abbrev pub Calls : List ℕ → Recogniser → List Event → Recogniser → Type 0
Calls [] old events new = (events ≡ []) × (new ≡ old)
Calls (now ∷ times) old events new =
    (report : Option Event) × (next : Recogniser) × Due now old report next
    × ((later : List Event) × Calls times next later new
    × (events ≡ with_report report later))

-- calls at one time report these events, and then nothing
abbrev pub AllDue : ℕ → Recogniser → List Event → Recogniser → Type 0
AllDue now old [] new = Due now old None new
AllDue now old (event ∷ events) new =
    (next : Recogniser) × Due now old (Some event) next × AllDue now next events new

-- **No call matters but the last.** Calls before report no other events than calls at the last time
-- alone would, and lead to the same recogniser.
abbrev pub NoCallMatters : Type 0
NoCallMatters =
    (times : List ℕ) (now : ℕ) (old next new : Recogniser) (early late : List Event)
    → AllByRecursion (λ time. time ≤ now) times → Calls times old early next
    → AllDue now next late new
    → AllDue now old (early ++ late) new

-- **A call does what its steps do.** What it reports is right, and follows what was reported.
abbrev pub DueIsRight : Type 0
DueIsRight =
    (now : ℕ) (old new : Recogniser) (report : Option Event) → Due now old report new
    → Reports old report new × (Waits old → Waits new × IfSome report (λ event. IsRight new event)
    × Follows old report new)

-- If it reports nothing, nothing is due.
abbrev pub DueEnds : Type 0
DueEnds = (now : ℕ) (old new : Recogniser) → Due now old None new → IsIdle now new
