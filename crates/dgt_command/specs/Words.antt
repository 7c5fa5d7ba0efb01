-- The frames of the line from the host to the board, and the division of bytes into them.
use Rattle.std.specs.Prelude.{◌≡◌, ◌≢◌, ℕ, ◌+◌, ◌<◌, ◌≤◌, List, [], ◌∷◌, ◌++◌, length, flat_map}
use Rattle.std.specs.List.{AllByRecursion}
use Rattle.dgt_command.specs.Content.{CommandContent, ClockMessage, Leds, EventContent, Read, BadSize, BadStart, BadEnd, Stray}
use Rattle.dgt_command.specs.Encoding.{AreBytes, command_encoding}

abbrev pub BeginsNoCommand : ℕ → Type 0
BeginsNoCommand byte =
    (command : CommandContent) (rest : List ℕ) → command_encoding command ≢ byte ∷ rest

-- Each event has its frames: a command its encoding, a fault the bytes up to the one that reveals
-- it, and a stray byte itself.
abbrev pub HasForm : EventContent → List ℕ → Type 0
HasForm (Read command) word = word ≡ command_encoding command
HasForm BadSize word = (size : ℕ) × (size < 3) × (word ≡ 0x2b ∷ size ∷ [])
HasForm BadStart word =
    (size : ℕ) × (start : ℕ) × (3 ≤ size) × (start ≢ 0x03) × (word ≡ 0x2b ∷ size ∷ start ∷ [])
HasForm BadEnd word =
    (size : ℕ) × (inner : List ℕ) × (end : ℕ) × (length inner + 2 ≡ size) × (end ≢ 0x00)
    × (3 ≤ size) × (word ≡ 0x2b ∷ size ∷ 0x03 ∷ (inner ++ end ∷ []))
HasForm (Stray byte) word = BeginsNoCommand byte × (word ≡ byte ∷ [])

pub record IsWord (event : EventContent) (word : List ℕ) : Type 0 where
  pub form : HasForm event word
  pub are_bytes : AreBytes word

-- a proper prefix of some frame
pub record IsPartial (rest : List ℕ) : Type 0 where
  pub event : EventContent
  pub next : ℕ
  pub more : List ℕ
  pub word : IsWord event (rest ++ next ∷ more)

-- the bytes are frames of these events in a row, and then a proper prefix of a frame
abbrev pub Divides : List ℕ → List EventContent → List ℕ → Type 0
Divides bytes [] rest = (bytes ≡ rest) × IsPartial rest
Divides bytes (event ∷ events) rest =
    (word : List ℕ) × (after : List ℕ)
    × IsWord event word × (bytes ≡ word ++ after) × Divides after events rest

-- some consecutive bytes, and their event
pub record Word : Type 0 where
  pub event : EventContent
  pub bytes : List ℕ

abbrev pub word_bytes : List Word → List ℕ
word_bytes words = flat_map (λ word. word.bytes) words

-- the bytes are these frames in a row, and then a proper prefix of a frame
pub record AreWords (bytes : List ℕ) (words : List Word) (rest : List ℕ) : Type 0 where
  pub each : AllByRecursion (λ word. IsWord word.event word.bytes) words
  pub whole : bytes ≡ word_bytes words ++ rest
  pub partial : IsPartial rest

-- clock messages, LED frames and faults
abbrev pub IsNoise : EventContent → Type 0
IsNoise (Read (ClockMessage message)) = Unit {0}
IsNoise (Read (Leds leds)) = Unit {0}
IsNoise (Read _) = ⊥
IsNoise _ = Unit {0}

abbrev pub IsNoiseList : List EventContent → Type 0
IsNoiseList = AllByRecursion IsNoise
