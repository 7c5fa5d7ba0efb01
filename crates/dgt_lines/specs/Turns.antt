-- A run in turns, each with one read: which bytes its source gave and its sink took, how many reads
-- it makes, when it stops, and which marks it leaves.
use Rattle.std.specs.Prelude.{◌≡◌, ◌≢◌, ◌+◌, ◌^◌, ◌<◌, ◌≤◌, ⊤, ℕ, Bool, true, false, List, length, Result, Err, IsTrue, OnOk}
use Rattle.std.specs.Io.KnownBytes.{Appends, Consumes, IsAtEnd}
use Rattle.dgt_lines.specs.declared.streams.Source.{Ghosts as Source}
use Rattle.dgt_lines.specs.declared.streams.Sink.{Ghosts as Sink}
use Rattle.dgt_lines.specs.declared.faults.RunFault.{RunFault}
use Rattle.dgt_lines.specs.declared.faults.RunFault.TheVariants.{ReadFailed, WriteFailed, TooManyTurns}

-- a borrowed value before and after a call
pub record Change (S : Type 0) : Type 0 where
  pub old : S
  pub new : S

abbrev pub change : {S : Type 0} → S → S → Change S
change old new = record { old = old; new = new }

-- in a run the source gave `bytes` and the sink took `out`, and P holds for them
abbrev pub Ran : {S T : Type 0} → Source S → Sink T → Change S → Change T
    → (List ℕ → List ℕ → Type 0) → Type 0
Ran R W source sink P =
    (bytes : List ℕ) × (out : List ℕ) × Consumes (R.left source.old) (R.left source.new) bytes
    × Appends (W.written sink.old) (W.written sink.new) out × P bytes out

-- a run of at most this many turns read these bytes: if it used up its turns, each read gave at
-- least one byte
abbrev pub HasTurns : {A : Type 0} → ℕ → Result A RunFault → List ℕ → Type 0
HasTurns limit (Err TooManyTurns) bytes = limit ≤ length bytes
HasTurns limit _ bytes = ⊤

-- a run of at most this many turns read these bytes, and P holds for these and the output
abbrev pub InTurns : {A : Type 0} → ℕ → Result A RunFault → (List ℕ → List ℕ → Type 0) → List ℕ
    → List ℕ → Type 0
InTurns limit r P bytes out = HasTurns limit r bytes × P bytes out

-- a source's mark after a call that returned this result
abbrev pub source_mark_after : {A : Type 0} → Result A RunFault → Bool → Bool
source_mark_after (Err ReadFailed) before = true
source_mark_after _ before = before

-- a sink's mark after a call that returned this result
abbrev pub sink_mark_after : {A : Type 0} → Result A RunFault → Bool → Bool
sink_mark_after (Err WriteFailed) before = true
sink_mark_after _ before = before

-- a run of at most `limit` turns, each with one read, returned this result
pub record RunsInTurns {S T A : Type 0} (R : Source S) (W : Sink T) (source : Change S)
    (sink : Change T) (limit : ℕ) (r : Result A RunFault) : Type 0 where
  -- if the result is Ok, no bytes are left to read
  pub all_read : OnOk r (IsAtEnd (R.left source.new))
  -- the source has failed if the result is ReadFailed; otherwise its mark is as before
  pub source_failed : R.failed source.new ≡ source_mark_after r (R.failed source.old)
  -- the sink has failed if the result is WriteFailed; otherwise its mark is as before
  pub sink_failed : W.failed sink.new ≡ sink_mark_after r (W.failed sink.old)
  -- no read follows one that was refused or gave the end
  pub source_in_time : R.failed source.old ≡ false → R.ended source.old ≡ false
      → R.late source.new ≡ R.late source.old
  -- no write or flush follows one that was refused
  pub sink_in_time : W.failed sink.old ≡ false → W.late sink.new ≡ W.late sink.old
  -- if the result is Ok, a read gave the end
  pub ended : OnOk r (IsTrue (R.ended source.new))
  -- if the result is TooManyTurns, no read gave it
  pub not_ended : r ≡ Err TooManyTurns → R.ended source.new ≡ R.ended source.old
  -- there are at most `limit` reads
  pub turns : R.reads source.old + limit < 2 ^ 64
      → R.reads source.new ≤ R.reads source.old + limit
  -- there are `limit` reads if the result is TooManyTurns
  pub all_turns : r ≡ Err TooManyTurns → R.reads source.old + limit < 2 ^ 64
      → R.reads source.new ≡ R.reads source.old + limit
  -- nothing is left to flush
  pub flushed : IsTrue (W.flushed sink.old) → r ≢ Err WriteFailed → IsTrue (W.flushed sink.new)
