-- How tasks end: what the contracts of tasks state about faults and about runs that succeed.
use Rattle.std.specs.Prelude.{◌≡◌, ◌≢◌, ◌<◌, ◌≤◌, ◌%◌, ◌⊎◌, ℕ, Bool, List, [], length, Result, Ok, Err, IsErr, IsTrue}
use Rattle.std.specs.Io.KnownBytes.{Appends}
use Rattle.hex.specs.Hex.{decode_of}
use Rattle.dgt_values.specs.declared.pieces.Piece.{Piece}
use Rattle.dgt_values.specs.Placement.{IsFirstBadOffset, IsPlacement}
use Rattle.dgt_board.specs.Simulated.{simulated_identity, simulated_times}
use Rattle.dgt_link.specs.View.{WorldView, new_world}
use Rattle.dgt_lines.specs.declared.faults.RunFault.{RunFault}
use Rattle.dgt_lines.specs.declared.faults.RunFault.TheVariants.{WriteFailed}
use Rattle.dgt_lines.specs.declared.streams.Source.{Ghosts as Source}
use Rattle.dgt_lines.specs.declared.streams.Sink.{Ghosts as Sink}
use Rattle.dgt_lines.specs.Lines.{monitor_text}
use Rattle.dgt_lines.specs.Monitoring.{IsMonitored, IsPrefix}
use Rattle.dgt_lines.specs.Turns.{Change, Ran}
use Rattle.dgt_text.specs.Simulating.{IsSimulated, Rules}
use Rattle.dgt_ask.specs.declared.tasks.Task.{Task}
use Rattle.dgt_ask.specs.declared.tasks.Task.TheVariants.{Monitor}
use Rattle.dgt_program.specs.declared.fault.Fault.{Fault}
use Rattle.dgt_program.specs.declared.fault.Fault.TheVariants.{BadHex, BadPlacement, LineTooSmall, OutOfMemory, Run}
use Rattle.dgt_program.specs.Tasks.{Does, InWorld, IsPrintedWith, IsShown, OnBoard, PlaysWith, Prints, Shows, ShowsWord}

-- ---- faults

-- the fault is not that of a run
abbrev pub IsBeforeRuns : Fault → Type 0
IsBeforeRuns fault = (run : RunFault) → fault ≢ Run run

-- if a task ends with a fault that is not of a run, no bytes were read or written
abbrev pub FaultsComeFirst : {S T : Type 0} → Source S → Sink T → Type 0
FaultsComeFirst {S} {T} R W =
    (task : Task) (source : Change S) (sink : Change T) (fault : Fault) → IsBeforeRuns fault
    → Does R W task source sink (Err fault)
    → (source.new ≡ source.old) × (sink.new ≡ sink.old)

-- ---- runs that succeed

-- the text was written and flushed
abbrev pub TextsAreFlushed : {T : Type 0} → Sink T → Type 0
TextsAreFlushed {T} W =
    (sink : Change T) (text : List ℕ) → Prints W sink (Ok tt) text
    → Appends (W.written sink.old) (W.written sink.new) text × IsTrue (W.flushed sink.new)

-- the sink contains this for all bytes, did not fail, and has no bytes left to flush if it had none
-- before
abbrev pub AllIsShown : {T : Type 0} → Sink T
    → (Result (Unit {0}) RunFault → List ℕ → List ℕ → Type 0) → Type 0
AllIsShown {T} W leaves =
    (sink : Change T) (bytes : List ℕ) → Shows W sink (Ok tt) leaves bytes
    → (out : List ℕ) × leaves (Ok tt) bytes out
    × Appends (W.written sink.old) (W.written sink.new) out
    × (W.failed sink.new ≡ W.failed sink.old)
    × (IsTrue (W.flushed sink.old) → IsTrue (W.flushed sink.new))

-- the source was read to its end, and the sink contains this for all of its bytes
abbrev pub AllIsMonitored : {S T : Type 0} → Source S → Sink T → Bool
    → (List ℕ → List ℕ → Type 0) → Type 0
AllIsMonitored {S} {T} R W names leaves =
    (source : Change S) (sink : Change T) → Does R W (Monitor names) source sink (Ok tt)
    → Ran R W source sink leaves × IsTrue (R.ended source.new)

-- a script was played to its end under these rules, and ShowsBoard holds for the last world and the
-- text that was written
abbrev pub PlaysAll : {S T : Type 0} → Source S → Sink T → Bool → Rules
    → (WorldView → List ℕ → Type 0) → Type 0
PlaysAll {S} {T} R W faults rules ShowsBoard =
    (source : Change S) (sink : Change T) (world : WorldView)
    → PlaysWith faults R W source sink (Ok tt) world
    → (last : WorldView)
    × Ran R W source sink (IsSimulated {A = Unit {0}} rules (R.ended source.new) (Ok tt) world last)
    × Ran R W source sink (λ _ out. ShowsBoard last out)

-- ---- printed bytes

-- Fewer bytes than 4,294,967,295 are all printed, or a write was refused.
abbrev pub ShowsAll : Type 0
ShowsAll =
    (run : Result (Unit {0}) RunFault) (bytes out : List ℕ) → length bytes < 4294967295
    → IsShown IsMonitored run bytes out → (out ≡ monitor_text bytes) ⊎ (run ≡ Err WriteFailed)

-- nothing is written for an empty word
abbrev pub ShowsNothing : Type 0
ShowsNothing =
    (out : List ℕ) → IsShown IsMonitored (Err WriteFailed) [] out → IsPrefix out (monitor_text [])

-- a word is printed if it is hexadecimal, and refused otherwise, if there is memory for it
abbrev pub WordsAreDecoded : {T : Type 0} → Sink T → Type 0
WordsAreDecoded {T} W =
    (sink : Change T) (r : Result (Unit {0}) Fault) (names : Bool) (word : List ℕ)
    → r ≢ Err OutOfMemory → ShowsWord W sink r (IsPrintedWith names) word
    → ((bytes : List ℕ) × (decode_of word ≡ Ok bytes)
    × Shows W sink r (IsPrintedWith names) bytes)
    ⊎ (IsErr (decode_of word) × (r ≡ Err BadHex))

-- an odd number of digits is refused as such, whether or not there is memory
abbrev pub OddWordsAreRefused : {T : Type 0} → Sink T → Type 0
OddWordsAreRefused {T} W =
    (sink : Change T) (r : Result (Unit {0}) Fault) (names : Bool) (word : List ℕ)
    → length word % 2 ≡ 1 → ShowsWord W sink r (IsPrintedWith names) word
    → (r ≡ Err BadHex) × (sink.new ≡ sink.old)

-- ---- boards and worlds

-- if the board has this position, the placement is that of the position
abbrev pub PositionsArePlaced : {S T : Type 0} → Source S → Sink T → Type 0
PositionsArePlaced {S} {T} R W =
    (source : Change S) (sink : Change T) (placement : List ℕ) (squares : List Piece)
    → OnBoard source sink (Ok tt) placement (λ position. position ≡ squares)
    → IsPlacement placement squares

-- without a position, the placement is bad at the offset that is reported
abbrev pub PlacementsAreRefused : {S T : Type 0} → Source S → Sink T → Type 0
PlacementsAreRefused {S} {T} R W =
    (source : Change S) (sink : Change T) (r : Result (Unit {0}) Fault) (placement : List ℕ)
    → OnBoard source sink r placement (λ position. ⊥)
    → (at : ℕ) × IsFirstBadOffset placement at × (r ≡ Err (BadPlacement at))

-- a world that is made has lines of these capacities, which are large enough
abbrev pub WorldsAreLarge : {S T : Type 0} → Source S → Sink T → Type 0
WorldsAreLarge {S} {T} R W =
    (source : Change S) (sink : Change T) (up down : ℕ) (position : List Piece)
    (made : WorldView) → InWorld source sink (Ok tt) up down (λ world. world ≡ made) position
    → (67 ≤ up) × (257 ≤ down)
    × (new_world position simulated_times simulated_identity up down ≡ made)

-- if no world is made, a line was too small, or memory was refused
abbrev pub SmallLinesAreRefused : {S T : Type 0} → Source S → Sink T → Type 0
SmallLinesAreRefused {S} {T} R W =
    (source : Change S) (sink : Change T) (r : Result (Unit {0}) Fault) (up down : ℕ)
    (position : List Piece) → InWorld source sink r up down (λ world. ⊥) position
    → (((up < 67) ⊎ (down < 257)) × (r ≡ Err LineTooSmall)) ⊎ (r ≡ Err OutOfMemory)
