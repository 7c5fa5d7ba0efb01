-- The effects of the calls that read a word of `dgt ask`.
use Rattle.std.specs.Prelude.{◌≡◌, ◌≢◌, ◌⊎◌, ◌+◌, ◌≤◌, ℕ, List, ◌∷◌, ◌++◌, codes, length, take, Result, MatchResult}
use Rattle.std.specs.List.{concat}
use Rattle.dgt_command.specs.Content.{ClockContent, CommandContent, ClockMessage, command_content}
use Rattle.dgt_command.specs.Encoding.{command_encoding}
use Rattle.dgt_command.specs.declared.ids.KnownId.{KnownId}
use Rattle.dgt_ask.specs.declared.asking.Asked.{Asked}
use Rattle.dgt_ask.specs.declared.asking.Asked.TheVariants as asked
use Rattle.dgt_ask.specs.declared.asking.Awaited.{Awaited}
use Rattle.dgt_ask.specs.declared.asking.Awaited.TheVariants.{Name}
use Rattle.dgt_ask.specs.declared.asking.Awaited.TheVariants as awaited
use Rattle.dgt_ask.specs.declared.asking.BadAsk.{BadAsk}
use Rattle.dgt_ask.specs.declared.asking.BadAsk.TheVariants.{OutOfMemory, Unfit}
use Rattle.dgt_ask.specs.declared.details.Detail.{Detail}
use Rattle.dgt_ask.specs.declared.details.Detail.TheVariants as detail
use Rattle.dgt_ask.specs.Asks.{AsksHelp, DetailAsks, IsNamed, detail_text}

-- the request of this word, which is a command without operands
abbrev pub IsAskedBy : List ℕ → Asked → Type 0
IsAskedBy word (asked.Command command) = IsNamed word (command_content command)
IsAskedBy word asked.Follow = word ≡ codes "follow"
IsAskedBy word asked.Restart = word ≡ codes "restart"
IsAskedBy word asked.Log = word ≡ codes "log"
IsAskedBy word (asked.With detail) = word ≡ detail_text detail

-- a call appends the bytes of this command, unless an allocation is refused
abbrev pub Adds : {A : Type 0} → Result A BadAsk → List ℕ → List ℕ → CommandContent → Type 0
Adds r old new command =
    MatchResult r (λ _. new ≡ old ++ command_encoding command) (λ fault. fault ≡ OutOfMemory)

-- a call appends these bytes, unless an allocation is refused
abbrev pub AddsBytes : {A : Type 0} → Result A BadAsk → List ℕ → List ℕ → List ℕ → Type 0
AddsBytes r old new bytes =
    MatchResult r (λ _. new ≡ old ++ bytes) (λ fault. fault ≡ OutOfMemory)

-- a call appends these bytes, and expects a name next
abbrev pub Takes : Result Awaited BadAsk → List ℕ → List ℕ → List ℕ → Type 0
Takes r old new bytes =
    MatchResult r (λ next. (next ≡ Name) × (new ≡ old ++ bytes)) (λ fault. fault ≡ OutOfMemory)

-- the fault is that this text is no operand of this word
abbrev pub IsUnfit : Detail → List ℕ → BadAsk → Type 0
IsUnfit word text (Unfit detail given) = (detail ≡ word) × (given.now ≡ text)
IsUnfit word text _ = ⊥

-- the word for clock messages with this id
abbrev pub id_word : KnownId → List ℕ
id_word KnownId.Display = codes "display"
id_word KnownId.Icons = codes "icons"
id_word KnownId.End = codes "end"
id_word KnownId.Button = codes "button"
id_word KnownId.Version = codes "clockversion"
id_word KnownId.SetAndRun = codes "setandrun"
id_word KnownId.Beep = codes "beep"
id_word KnownId.Text = codes "text"

-- the word requests clock messages with this id, by itself or with an operand
abbrev pub WritesId : List ℕ → ℕ → Type 0
WritesId word id =
    (message : ClockContent) × (message.id ≡ id)
    × (IsNamed word (ClockMessage message)
    ⊎ ((each : Detail) × (text : List ℕ) × (each ≢ detail.ClockMessage)
    × (word ≡ detail_text each) × DetailAsks each text (ClockMessage message)))

-- the bytes of a clock message with this id are awaited
abbrev pub AwaitsBytes : List ℕ → Awaited → Type 0
AwaitsBytes id (awaited.Bytes given) = given.now ≡ id
AwaitsBytes id _ = ⊥

-- the bytes of a clock message are awaited
abbrev pub IsAfterId : Awaited → Type 0
IsAfterId (awaited.Bytes id) = Unit {0}
IsAfterId _ = ⊥

-- What is awaited after the first `at` words of a line, and what they appended. The line begins
-- with words that request these bytes, and `rest` follows.
pub record Awaits (before rest asked : List (List ℕ)) (at : ℕ) (next : Awaited) (bytes : List ℕ) :
    Type 0 where
  pub name : at ≤ length before → (next ≡ Name) × (bytes ≡ concat (take at asked))
  pub operand : (word : Detail) (more : List (List ℕ)) → at ≡ length before + 1
      → rest ≡ detail_text word ∷ more → next ≡ awaited.Detail word
  pub id : (id : List ℕ) (more : List (List ℕ)) → at ≡ length before + 2
      → rest ≡ detail_text detail.ClockMessage ∷ id ∷ more → ¬ AsksHelp id → IsAfterId next
