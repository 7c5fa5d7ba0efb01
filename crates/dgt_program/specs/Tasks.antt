-- What the program does for a task: what it reads and writes, and how it ends.
use Rattle.std.specs.Prelude.{◌≡◌, ◌≢◌, ◌<◌, ◌≤◌, ◌%◌, ◌⊎◌, ℕ, Bool, true, false, List, length, Result, Ok, Err, IsErr, OnOk, IsTrue, string_bytes}
use Rattle.std.specs.Io.KnownBytes.{Appends}
use Rattle.hex.specs.Hex.{decode_of}
use Rattle.dgt_values.specs.declared.pieces.Piece.{Piece}
use Rattle.dgt_values.specs.Placement.{IsPlacement, IsFirstBadOffset}
use Rattle.dgt_board.specs.View.{BoardView, new_view}
use Rattle.dgt_board.specs.Simulated.{simulated_identity, simulated_times}
use Rattle.dgt_link.specs.View.{WorldView, new_world}
use Rattle.dgt_lines.specs.declared.faults.RunFault.{RunFault}
use Rattle.dgt_lines.specs.declared.faults.RunFault.TheVariants.{ReadFailed, WriteFailed, TooManyTurns}
use Rattle.dgt_lines.specs.declared.streams.Source.{Ghosts as Source}
use Rattle.dgt_lines.specs.declared.streams.Sink.{Ghosts as Sink}
use Rattle.dgt_lines.specs.Commanding.{IsListed}
use Rattle.dgt_lines.specs.Logging.{IsLogged}
use Rattle.dgt_lines.specs.Monitoring.{IsMonitored, IsPrefix}
use Rattle.dgt_lines.specs.NamedLines.{AreMonitored}
use Rattle.dgt_lines.specs.Picturing.{IsPictured}
use Rattle.dgt_lines.specs.Turns.{Change, InTurns, Ran, RunsInTurns, sink_mark_after}
use Rattle.dgt_lines.specs.Writing.{Writes}
use Rattle.dgt_text.specs.Serving.{IsServed}
use Rattle.dgt_text.specs.Simulating.{IsSimulated, Rules, ShowsHealed, ShowsPicture, faulty_rules, plain_rules}
use Rattle.dgt_ask.specs.declared.tasks.Task.{Task}
use Rattle.dgt_ask.specs.declared.tasks.Task.TheVariants.{Help, Show, Monitor, Picture, Log, Commands, Ask, Board, Simulate}
use Rattle.dgt_program.specs.declared.program.TheConstants.{MOST_TURNS}
use Rattle.dgt_program.specs.declared.fault.Fault.{Fault}
use Rattle.dgt_program.specs.declared.fault.Fault.TheVariants.{BadHex, BadPlacement, LineTooSmall, Run, OutOfMemory}

-- ---- how a task ends

-- the result of a task, if its engine returned this one
abbrev pub task_answer : Result (Unit {0}) RunFault → Result (Unit {0}) Fault
task_answer (Ok done) = Ok done
task_answer (Err fault) = Err (Run fault)

-- the source and the sink were not called
abbrev pub Untouched : {S : Type 0} → Change S → Type 0
Untouched stream = stream.new ≡ stream.old

-- this fault was found before the first read and the first write
pub record Refuses {S T : Type 0} (source : Change S) (sink : Change T)
    (r : Result (Unit {0}) Fault) (fault : Fault) : Type 0 where
  pub answer : r ≡ Err fault
  pub unread : Untouched source
  pub unwritten : Untouched sink

-- an engine ran, and `leaves` holds for its result and for what it read and wrote
pub record Runs {S T : Type 0} (R : Source S) (W : Sink T) (source : Change S) (sink : Change T)
    (r : Result (Unit {0}) Fault)
    (leaves : Result (Unit {0}) RunFault → List ℕ → List ℕ → Type 0) : Type 0 where
  pub run : Result (Unit {0}) RunFault
  pub answer : r ≡ task_answer run
  pub output : Ran R W source sink (InTurns MOST_TURNS run (leaves run))
  pub in_turns : RunsInTurns R W source sink MOST_TURNS run

-- ---- tasks that read nothing

-- the text was written and flushed, or the sink refused and has a prefix of it
pub record Prints {T : Type 0} (W : Sink T) (sink : Change T) (r : Result (Unit {0}) Fault)
    (text : List ℕ) : Type 0 where
  pub run : Result (Unit {0}) RunFault
  pub answer : r ≡ task_answer run
  pub output : Writes W sink.old sink.new run text
  pub flushed : OnOk run (IsTrue (W.flushed sink.new))

-- what the sink contains for the bytes that were read, if an engine that prints messages, with or
-- without names, returned this result
abbrev pub IsPrintedWith : Bool → Result (Unit {0}) RunFault → List ℕ → List ℕ → Type 0
IsPrintedWith false run bytes out = IsMonitored run bytes out
IsPrintedWith true run bytes out = AreMonitored run bytes out

-- What the sink contains for the bytes of a word, if an engine that writes this for the bytes that
-- it reads returned this result. It read all of the word, unless a write was refused or there were
-- too many reads. Then it read a prefix. If there were too many reads, each gave at least a byte.
abbrev pub IsShown : (Result (Unit {0}) RunFault → List ℕ → List ℕ → Type 0)
    → Result (Unit {0}) RunFault → List ℕ → List ℕ → Type 0
IsShown leaves (Ok done) bytes out = leaves (Ok done) bytes out
IsShown leaves (Err ReadFailed) bytes out = ⊥
IsShown leaves (Err TooManyTurns) bytes out =
    (read : List ℕ) × IsPrefix read bytes × (MOST_TURNS ≤ length read)
    × leaves (Err TooManyTurns) read out
IsShown leaves (Err fault) bytes out =
    (read : List ℕ) × IsPrefix read bytes × leaves (Err fault) read out

-- these bytes are printed
pub record Shows {T : Type 0} (W : Sink T) (sink : Change T) (r : Result (Unit {0}) Fault)
    (leaves : Result (Unit {0}) RunFault → List ℕ → List ℕ → Type 0) (bytes : List ℕ) : Type 0
  where
    pub run : Result (Unit {0}) RunFault
    pub answer : r ≡ task_answer run
    pub out : List ℕ
    pub output : Appends (W.written sink.old) (W.written sink.new) out
    pub shown : IsShown leaves run bytes out
    pub failed : W.failed sink.new ≡ sink_mark_after run (W.failed sink.old)
    pub in_time : W.failed sink.old ≡ false → W.late sink.new ≡ W.late sink.old
    pub flushed : IsTrue (W.flushed sink.old) → run ≢ Err WriteFailed → IsTrue (W.flushed sink.new)

-- what `show` does with a word; memory is asked for only if its digits are not odd in number
abbrev pub ShowsWord : {T : Type 0} → Sink T → Change T → Result (Unit {0}) Fault
    → (Result (Unit {0}) RunFault → List ℕ → List ℕ → Type 0) → List ℕ → Type 0
ShowsWord W sink r leaves word =
    ((bytes : List ℕ) × (decode_of word ≡ Ok bytes) × Shows W sink r leaves bytes)
    ⊎ (IsErr (decode_of word) × (r ≡ Err BadHex) × Untouched sink)
    ⊎ ((length word % 2 ≢ 1) × (r ≡ Err OutOfMemory) × Untouched sink)

-- ---- tasks with a board

-- a placement has a position, and P holds for it, or it is refused
abbrev pub OnBoard : {S T : Type 0} → Change S → Change T → Result (Unit {0}) Fault → List ℕ
    → (List Piece → Type 0) → Type 0
OnBoard source sink r placement P =
    ((position : List Piece) × IsPlacement placement position × P position)
    ⊎ ((at : ℕ) × IsFirstBadOffset placement at × Refuses source sink r (BadPlacement at))

-- a board with this position answers
abbrev pub AnswersFor : {S T : Type 0} → Source S → Sink T → Change S → Change T
    → Result (Unit {0}) Fault → List Piece → Type 0
AnswersFor R W source sink r position =
    let board = new_view position simulated_times simulated_identity in
    (after : BoardView) × Runs R W source sink r (λ run. IsServed run board after)

-- a script was played in this world
pub record PlaysScript {S T : Type 0} (R : Source S) (W : Sink T) (source : Change S)
    (sink : Change T) (r : Result (Unit {0}) Fault) (rules : Rules)
    (ShowsBoard : WorldView → List ℕ → Type 0) (world : WorldView) : Type 0 where
  pub last : WorldView
  pub plays : Runs R W source sink r
      (λ run. IsSimulated rules (R.ended source.new) run world last)
  pub picture : Runs R W source sink r (λ run _ out. OnOk run (ShowsBoard last out))

-- with faults or without
abbrev pub PlaysWith : {S T : Type 0} → Bool → Source S → Sink T → Change S → Change T
    → Result (Unit {0}) Fault → WorldView → Type 0
PlaysWith false R W source sink r = PlaysScript R W source sink r plain_rules ShowsPicture
PlaysWith true R W source sink r = PlaysScript R W source sink r faulty_rules ShowsHealed

-- the lines of a world have these capacities, or are refused
abbrev pub InWorld : {S T : Type 0} → Change S → Change T → Result (Unit {0}) Fault → ℕ → ℕ
    → (WorldView → Type 0) → List Piece → Type 0
InWorld source sink r up down P position =
    (((up < 67) ⊎ (down < 257)) × Refuses source sink r LineTooSmall)
    ⊎ ((67 ≤ up) × (257 ≤ down)
    × (P (new_world position simulated_times simulated_identity up down)
    ⊎ Refuses source sink r OutOfMemory))

-- ---- all tasks

-- what the program does for a task
abbrev pub Does : {S T : Type 0} → Source S → Sink T → Task → Change S → Change T
    → Result (Unit {0}) Fault → Type 0
Does R W (Help text) source sink r = Untouched source × Prints W sink r (string_bytes text)
Does R W (Ask bytes) source sink r = Untouched source × Prints W sink r bytes.items
Does R W (Show word names) source sink r =
    Untouched source × ShowsWord W sink r (IsPrintedWith names) word.now
Does R W (Monitor names) source sink r = Runs R W source sink r (IsPrintedWith names)
Does R W (Picture doubt clock) source sink r = Runs R W source sink r (IsPictured doubt clock)
Does R W Log source sink r = Runs R W source sink r IsLogged
Does R W Commands source sink r = Runs R W source sink r IsListed
Does R W (Board placement) source sink r =
    OnBoard source sink r placement.now (AnswersFor R W source sink r)
Does R W (Simulate placement up down faults) source sink r =
    OnBoard source sink r placement.now
    (InWorld source sink r up down (PlaysWith faults R W source sink r))
