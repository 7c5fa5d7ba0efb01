-- The lines of a script for a world with faults, and their acts.
use Rattle.std.specs.Prelude.{◌≡◌, ℕ, List, [], ◌∷◌, codes}
use Rattle.dgt_link.specs.Faults.{FaultyContent}
use Rattle.dgt_script.specs.declared.script_words.FaultyVerb.{FaultyVerb}
use Rattle.dgt_script.specs.declared.script_words.FaultyVerb.TheVariants as faulty
use Rattle.dgt_script.specs.Script.{Asks, HasWordAfter, Vocabulary, WordKind, kinds_after, some_bytes}
use Rattle.dgt_script.specs.ScriptWords.{verb_text, IsBytesWord}

-- the words that a line may begin with
abbrev pub faulty_text : FaultyVerb → List ℕ
faulty_text (faulty.Plain verb) = verb_text verb
faulty_text faulty.GarbleUp = codes "garbleup"
faulty_text faulty.GarbleDown = codes "garbledown"
faulty_text faulty.BoardLost = codes "boardlost"
faulty_text faulty.Restart = codes "restart"
faulty_text faulty.GiveUp = codes "giveup"

-- the kinds of the words after a first word
abbrev pub faulty_kinds : FaultyVerb → List WordKind
faulty_kinds (faulty.Plain verb) = kinds_after verb
faulty_kinds faulty.GarbleUp = some_bytes ∷ []
faulty_kinds faulty.GarbleDown = some_bytes ∷ []
faulty_kinds faulty.BoardLost = []
faulty_kinds faulty.Restart = []
faulty_kinds faulty.GiveUp = []

-- these words are this act
abbrev pub AsksFaulty : List (List ℕ) → FaultyContent → Type 0
AsksFaulty parts (FaultyContent.Plain act) = Asks parts act
AsksFaulty parts (FaultyContent.GarbleUp bytes) =
    HasWordAfter (faulty_text faulty.GarbleUp) IsBytesWord parts bytes
AsksFaulty parts (FaultyContent.GarbleDown bytes) =
    HasWordAfter (faulty_text faulty.GarbleDown) IsBytesWord parts bytes
AsksFaulty parts FaultyContent.BoardLost = parts ≡ faulty_text faulty.BoardLost ∷ []
AsksFaulty parts FaultyContent.Restart = parts ≡ faulty_text faulty.Restart ∷ []
AsksFaulty parts FaultyContent.GiveUp = parts ≡ faulty_text faulty.GiveUp ∷ []

abbrev pub faulty_words : Vocabulary FaultyVerb FaultyContent
faulty_words = record { text_of = faulty_text; kinds_of = faulty_kinds; asks = AsksFaulty }
