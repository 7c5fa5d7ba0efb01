-- What the engines print for the bytes that they read.
use Rattle.std.specs.Prelude.{◌≡◌, ℕ, false, List, [], ◌++◌, length, take, Option, Result, IfOk, OnErr, OnOk}
use Rattle.dgt_decode.specs.Grammar.{Event, at_place, events, unfinished_message}
use Rattle.dgt_lines.specs.declared.doubts.PictureState.{PictureState}
use Rattle.dgt_lines.specs.declared.streams.Sink.{Ghosts as Sink}
use Rattle.dgt_lines.specs.declared.faults.RunFault.{RunFault}
use Rattle.dgt_lines.specs.Lines.{lines, unfinished_line}
use Rattle.dgt_lines.specs.Reports.{state_from, text_from}
use Rattle.dgt_lines.specs.Logs.{HasLog}
use Rattle.dgt_lines.specs.Marks.{Waits}
use Rattle.dgt_lines.specs.Writing.{Gathers, Writes}
use Rattle.dgt_lines.specs.CommandLines.{Prints}
use Rattle.dgt_lines.specs.Monitoring.{IsInSink}
use Rattle.dgt_lines.specs.NamedLines.{AreNamedLines, IsNamed, name_text, named_line}

-- what the sink contains if the bytes that were read have these lines, and a last line for an
-- unfinished rest at their end
pub record IsPrinted {A : Type 0} (HasLines : List ℕ → List ℕ → List ℕ → Type 0)
    (r : Result A RunFault) (bytes out : List ℕ) : Type 0 where
  pub text : List ℕ
  pub last : List ℕ
  pub has : HasLines bytes text last
  pub stands : IsInSink r text (text ++ last) out

-- a call that gathers this text without a flush; if the sink refuses, nothing is held then
pub record Puts {S A : Type 0} (W : Sink S) (held : List ℕ × List ℕ) (old new : S)
    (r : Result A RunFault) (text : List ℕ) : Type 0 where
  pub output : Gathers W held old new r text
  pub dropped : OnErr r (held.1 ≡ [])
  pub no_flush : W.flushed old ≡ false → W.flushed new ≡ false
  pub waits : OnOk r (Waits (held.0 ++ text) (W.flushed old) → Waits held.1 (W.flushed new))

-- A call that gathers the lines of some bytes after this text, without a flush. `bytes` are all
-- bytes up to their end. If the sink refuses, these bytes were read and no more.
pub record GathersMore {S A : Type 0} (W : Sink S) (held : List ℕ × List ℕ) (old new : S)
    (r : Result A RunFault) (HasPrinted : List ℕ → List ℕ → Type 0) (bytes text : List ℕ) :
    Type 0 where
  pub more : List ℕ
  pub gathers : Gathers W held old new r more
  pub has : HasPrinted bytes (text ++ more)
  pub waits : OnOk r (Waits (held.0 ++ more) (W.flushed old) → Waits held.1 (W.flushed new))

-- the same for a prefix of `rest` after these bytes: the call returns its length
abbrev pub GathersPrefix : {S : Type 0} → Sink S → List ℕ × List ℕ → S → S → Result ℕ RunFault
    → (List ℕ → List ℕ → Type 0) → List ℕ → List ℕ → List ℕ → Type 0
GathersPrefix W held old new r HasPrinted bytes rest text =
    (used : ℕ) × IfOk r (λ n. n ≡ used)
    × GathersMore W held old new r HasPrinted (bytes ++ take used rest) text

-- a call that writes the lines of a chunk after this text; `bytes` are all bytes up to its end
pub record PrintsMore {S A : Type 0} (W : Sink S) (old new : S) (r : Result A RunFault)
    (HasLines : List ℕ → List ℕ → List ℕ → Type 0) (HasPrinted : List ℕ → List ℕ → Type 0)
    (bytes text : List ℕ) : Type 0 where
  pub more : List ℕ
  pub last : List ℕ
  pub writes : Writes W old new r more
  pub has : HasLines bytes (text ++ more) last
  pub keeps : OnOk r (HasPrinted bytes (text ++ more))
  pub waits : OnOk r (Waits more (W.flushed old) → W.flushed new ≡ false)

-- ---- The lines of events

abbrev pub HasEventLines : List ℕ → List ℕ → List ℕ → Type 0
HasEventLines bytes text last =
    (text ≡ lines bytes) × (last ≡ unfinished_line (length bytes) (unfinished_message bytes))

-- the text is the lines of the bytes, and a framer that keeps `kept` holds the unfinished rest
pub record HasPrintedEvents (kept bytes text : List ℕ) : Type 0 where
  pub said : text ≡ lines bytes
  pub held : unfinished_message kept ≡ unfinished_message bytes

-- ---- The lines of events with names

-- a call that gathers a text with this property
pub record GathersOne {S A : Type 0} (W : Sink S) (held : List ℕ × List ℕ) (old new : S)
    (r : Result A RunFault) (IsText : List ℕ → Type 0) : Type 0 where
  pub text : List ℕ
  pub is : IsText text
  pub gathers : Gathers W held old new r text

-- a colon, a space and the name of an event, if it has one
abbrev pub IsNameText : Event → List ℕ → Type 0
IsNameText event text = (name : Option (List ℕ)) × IsNamed event name × (text ≡ name_text name)

-- the line of an event that ends after this many bytes
abbrev pub IsNamedLine : ℕ → Event → List ℕ → Type 0
IsNamedLine offset event text =
    (name : Option (List ℕ)) × IsNamed event name
    × (text ≡ named_line (at_place offset event) name)

abbrev pub HasNamedLines : List ℕ → List ℕ → List ℕ → Type 0
HasNamedLines bytes text last =
    AreNamedLines (events bytes) text
    × (last ≡ unfinished_line (length bytes) (unfinished_message bytes))

-- the text is the lines of the bytes, and a framer that keeps `kept` holds the unfinished rest
pub record HasPrintedNames (kept bytes text : List ℕ) : Type 0 where
  pub said : AreNamedLines (events bytes) text
  pub held : unfinished_message kept ≡ unfinished_message bytes

-- ---- The lines of positions, from this state on

abbrev pub HasReportLines : PictureState → List ℕ → List ℕ → List ℕ → Type 0
HasReportLines first bytes text last = (text ≡ text_from first bytes) × (last ≡ [])

-- the text is the lines of the bytes, and `state` is the one after them
pub record HasPrintedReports (first : PictureState) (kept : List ℕ) (state : PictureState)
    (bytes text : List ℕ) : Type 0 where
  pub said : text ≡ text_from first bytes
  pub after : state ≡ state_from first bytes
  pub held : unfinished_message kept ≡ unfinished_message bytes

-- ---- The lines of commands

abbrev pub HasCommandLines : List ℕ → List ℕ → List ℕ → Type 0
HasCommandLines bytes text last =
    (rest : List ℕ) × Prints 0 bytes rest text × (last ≡ unfinished_line (length bytes) rest)

-- ---- The lines of stored events

abbrev pub HasLogLines : List ℕ → List ℕ → List ℕ → Type 0
HasLogLines bytes text last = HasLog (events bytes) text × (last ≡ [])

-- the text is the lines of the bytes, and a framer that keeps `kept` holds the unfinished rest
pub record HasPrintedLog (kept bytes text : List ℕ) : Type 0 where
  pub has : HasLog (events bytes) text
  pub held : unfinished_message kept ≡ unfinished_message bytes
