-- Laws of frames and of the division of bytes into them.
use Rattle.std.specs.Prelude.{◌≡◌, ℕ, ◌<◌, ◌≤◌, List, [], ◌++◌, length, map, replicate}
use Rattle.std.specs.List.{flat_map, AllByRecursion}
use Rattle.dgt_command.specs.Content.{CommandContent, EventContent, Read}
use Rattle.dgt_command.specs.Encoding.{AreBytes, command_encoding, EncodesCommand, command_in}
use Rattle.dgt_command.specs.Words.{IsWord, IsPartial, Divides, Word, AreWords, IsNoiseList}

-- each list of bytes divides into frames and a rest, and any two divisions of it are the same
abbrev pub EachDividesOnce : Type 0
EachDividesOnce =
    ((bytes : List ℕ) → AreBytes bytes →
    (events : List EventContent) × (rest : List ℕ) × Divides bytes events rest)
    × ((bytes : List ℕ) (events others : List EventContent) (rest remainder : List ℕ) →
    Divides bytes events rest → Divides bytes others remainder →
    (events ≡ others) × (rest ≡ remainder))

-- each list of bytes is a list of frames and a rest, in one way only
abbrev pub EachHasItsWords : Type 0
EachHasItsWords =
    ((bytes : List ℕ) → AreBytes bytes →
    (words : List Word) × (rest : List ℕ) × AreWords bytes words rest)
    × ((bytes : List ℕ) (words others : List Word) (rest remainder : List ℕ) →
    AreWords bytes words rest → AreWords bytes others remainder →
    (words ≡ others) × (rest ≡ remainder))

-- a frame that begins with a frame is that frame, and has the same event
abbrev pub NoWordBeginsAnother : Type 0
NoWordBeginsAnother =
    (event other : EventContent) (word longer more : List ℕ) →
    IsWord event word → IsWord other longer → longer ≡ word ++ more →
    (event ≡ other) × (more ≡ [])

-- no part of a frame begins with a frame
abbrev pub NoWordBeginsAPart : Type 0
NoWordBeginsAPart =
    (event : EventContent) (word more : List ℕ) → IsWord event word → ¬ (IsPartial (word ++ more))

-- after bytes with no rest, encoded commands in a row are read as those commands
abbrev pub CommandsAreReadBack : Type 0
CommandsAreReadBack =
    (bytes : List ℕ) (events : List EventContent) (commands : List CommandContent) →
    Divides bytes events [] →
    AllByRecursion (λ command. EncodesCommand command (command_encoding command)) commands →
    Divides (bytes ++ flat_map command_encoding commands) (events ++ map Read commands) []

-- a part of a frame and 255 zeros are noise and leave no rest
abbrev pub ZerosSettleTheReader : Type 0
ZerosSettleTheReader =
    (rest : List ℕ) → IsPartial rest →
    (events : List EventContent) × IsNoiseList events × Divides (rest ++ replicate 255 0) events []

-- bytes after others are divided from the rest of those on
abbrev pub DivisionsAppend : Type 0
DivisionsAppend =
    (bytes more : List ℕ) (events others : List EventContent) (rest remainder : List ℕ) →
    Divides bytes events rest → Divides (rest ++ more) others remainder →
    Divides (bytes ++ more) (events ++ others) remainder

-- the events of a prefix of bytes are the first of theirs, and the rest of the prefix is continued
abbrev pub PrefixesDivideFirst : Type 0
PrefixesDivideFirst =
    (prefix more : List ℕ) (events all : List EventContent) (rest last : List ℕ) →
    Divides prefix events rest → Divides (prefix ++ more) all last →
    (others : List EventContent) × (all ≡ events ++ others) × Divides (rest ++ more) others last

-- a frame has at least one byte, and at most 257
abbrev pub WordsAreShort : Type 0
WordsAreShort =
    (event : EventContent) (word : List ℕ) →
    IsWord event word → (0 < length word) × (length word ≤ 257)

-- encoded bytes determine their command
abbrev pub EncodingsGiveCommands : Type 0
EncodingsGiveCommands =
    (command : CommandContent) (bytes : List ℕ) →
    EncodesCommand command bytes → command_in bytes ≡ command
