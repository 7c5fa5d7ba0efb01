-- What a file of games keeps, if it obeys the events.
use Rattle.std.specs.Prelude.{◌≡◌, ◌≢◌, ◌↔◌, ◌⊎◌, ℕ, ⊤, Bool, true, false, List, [], ◌∷◌, ◌++◌, Some, Contains, drop}
use Rattle.dgt_chess.specs.declared.state.{Move.{Move}, State.{State}}
use Rattle.dgt_game.specs.declared.event.{Event.{Event}, Moves.{Moves}}
use Rattle.dgt_game.specs.declared.recogniser.Recogniser.{Recogniser}
use Rattle.dgt_game.specs.Told.{IsLegalTold, Leads, Told}
use Rattle.dgt_game.specs.Recogniser.{new_recogniser}
use Rattle.dgt_game.specs.Runs.{Call, Runs, events_of}
use Rattle.dgt_game.specs.Staying.{Notes, StaysWhole}
use Rattle.dgt_game.specs.Timing.{Marks}
use Rattle.dgt_game.specs.Waiting.{has_result}

-- A line of the file begins with all of this one. As the last state is the first one of the list,
-- this is the end of the list.
abbrev pub Begins : List (List Told) → List Told → Type 0
Begins file line =
    (whole : List Told) × Contains file whole × ((more : List Told) × (whole ≡ more ++ line))

-- The lines that the file has to keep, after those before. A line is kept when something is taken
-- back that stays, and when another line begins.
abbrev pub lines_after : List Told → Event → List (List Told) → List (List Told)
lines_after line (Event.Begun state is_turned) lines = line ∷ lines
lines_after line (Event.Back count true) lines = line ∷ lines
lines_after line event lines = lines

-- after all events in turn: the line, and the lines to keep
abbrev pub Asks : List Told → List (List Told) → List Event → List Told → List (List Told) → Type 0
Asks line lines [] new now = (new ≡ line) × (now ≡ lines)
Asks line lines (event ∷ events) new now =
    (next : List Told) × Leads line event next
    × Asks next (lines_after line event lines) events new now

-- The file of a writer that obeys: the line and each line to keep begin one of its lines. So it
-- may keep more, and the same half-moves made again need no line of their own.
abbrev pub IsFile : List (List Told) → List Told → List (List Told) → Type 0
IsFile file line lines =
    Begins file line × ((kept : List Told) → Contains lines kept → Begins file kept)

-- half-moves are made
abbrev pub IsStep : Event → Type 0
IsStep (Event.Made one) = ⊤
IsStep (Event.Unseen moves) = ⊤
IsStep (Event.Gap state count) = ⊤
IsStep event = ⊥

-- ---- Laws

-- **No played line is deleted.** What two steps have followed is the beginning of a line in the
-- file after all later events. So at most the last two steps can be lost, whatever follows.
abbrev pub NoLineIsDeleted : Type 0
NoLineIsDeleted =
    (early later : List Call) (self ended : Recogniser) (last before : Told) (line new : List Told)
    (lines now file : List (List Told)) → Runs new_recogniser early self → Runs self later ended
    → Asks [] [] (events_of early) (last ∷ before ∷ line) lines
    → Asks (last ∷ before ∷ line) lines (events_of later) new now → IsFile file new now
    → Begins file line

-- **A line that has ended, or whose last position was shown for 30 seconds, is kept** with all its
-- half-moves when something of it is taken back.
abbrev pub WholeIsKept : Type 0
WholeIsKept =
    (calls : List Call) (before self new : Recogniser) (told : Told) (line : List Told)
    (lines : List (List Told)) (count : ℕ) (stays : Bool) → Runs new_recogniser calls before
    → Asks [] [] (events_of calls) (told ∷ line) lines → self.staying ≡ before.staying
    → Notes self (Some (Event.Back count stays)) new → StaysWhole self
    → Begins (lines_after (told ∷ line) (Event.Back count stays) lines) (told ∷ line)

-- If the line has a result when something of it is taken back, it is kept, unless half-moves wait
-- that replace it at once.
abbrev pub EndedIsKept : Type 0
EndedIsKept =
    (calls : List Call) (before new : Recogniser) (told : Told) (line : List Told)
    (lines : List (List Told)) (count : ℕ) (stays : Bool) → Runs new_recogniser calls before
    → Asks [] [] (events_of calls) (told ∷ line) lines → has_result before.over ≡ true
    → Marks before (Some (Event.Back count stays)) new
    → Begins (lines_after (told ∷ line) (Event.Back count stays) lines) (told ∷ line)
    ⊎ ((self : Recogniser) × Notes self (Some (Event.Back count stays)) new
    × (self.memory.unsaid.items ≢ []))

-- What was to be kept once begins a line of the file after all later events.
abbrev pub AskedStays : Type 0
AskedStays =
    (events : List Event) (line new kept : List Told) (lines now file : List (List Told))
    → Asks line lines events new now → IsFile file new now → Begins lines kept → Begins file kept

-- half-moves are reported
abbrev pub Steps : Recogniser → Recogniser → Type 0
Steps old new = (event : Event) × IsStep event × Marks old (Some event) new

-- **Corrections keep nothing.** If the last step is taken back, that stays only if all of the line
-- does. The same holds of the last two.
abbrev pub CorrectionsKeepNothing : Type 0
CorrectionsKeepNothing =
    (first one between second self mid next new : Recogniser) (count more : ℕ) (stays stay : Bool)
    → Steps first one → Notes self (Some (Event.Back count stays)) mid → ¬ (StaysWhole self)
    → (self.staying ≡ one.staying → stays ≡ false)
    × (between.staying ≡ one.staying → Steps between second → self.staying ≡ second.staying
    → next.staying ≡ mid.staying → Notes next (Some (Event.Back more stay)) new
    → ¬ (StaysWhole next) → (stays ≡ false) × (stay ≡ false))

-- Each line that legal events lead to has lines to keep, and only such a line.
abbrev pub AsksAreLegal : Type 0
AsksAreLegal =
    (events : List Event) (line new : List Told) (lines : List (List Told))
    → IsLegalTold line events new ↔ ((now : List (List Told)) × Asks line lines events new now)

-- The line and the lines to keep are a file that obeys.
abbrev pub AllIsFile : Type 0
AllIsFile = (line : List Told) (lines : List (List Told)) → IsFile (line ∷ lines) line lines

-- A line of a file begins with what is left of it without some of its last states.
abbrev pub OneBegins : Type 0
OneBegins =
    (whole line : List Told) → Begins (whole ∷ []) line ↔ ((k : ℕ) × (line ≡ drop k whole))

-- A step is a half-move, several that weren't shown, or a gap.
abbrev pub StepsAreMade : Type 0
StepsAreMade =
    (event : Event)
    → IsStep event ↔ (((one : Move) × (event ≡ Event.Made one))
    ⊎ ((moves : Moves) × (event ≡ Event.Unseen moves))
    ⊎ ((state : State) × ((count : ℕ) × (event ≡ Event.Gap state count))))
