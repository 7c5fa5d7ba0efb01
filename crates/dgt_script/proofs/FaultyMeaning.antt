-- The vocabulary of lines with faults is ordered, and words ask for one act at most.
use Rattle.{std.{proofs.Common.{refl, ◌≡◌, ◌≢◌, ℕ, List, [], ◌∷◌, Option, Some, None, inl, inr, rules}, specs.Prelude.{bytes_eq, codes, if◌then◌else◌}}, hex.proofs.HexLemmas.{decode_of-same}}
use Rattle.{dgt_command.specs.Laws.{EncodingsGiveCommands}, dgt_link.specs.Faults.{FaultyContent}, dgt_script.specs.FaultyScript.{AsksFaulty, faulty_kinds, faulty_text, faulty_words}}
use Rattle.dgt_script.{specs.{Script.{AreOf, IsBadAt, plain_words}, declared.script_words.{FaultyVerb.{FaultyVerb}, Verb.{Verb}}}, proofs.MeaningLemmas.{asks_in_order, kinds_ask, same_act}}
use Rattle.dgt_script.proofs.{MeaningLemmas.{verb_named, verb_named-verb_text, verb_of}, ScriptLemmas.{length-words}, ScriptWordLemmas.{IsRead}, VocabularyLemmas.{IsOrdered, one_value}}
use Rattle.dgt_script.specs.declared.script_words.FaultyVerb.TheVariants as faulty

-- ---- The first word

-- a verb of a plain script, or else a fault
abbrev pub plain_or_fault : Option Verb → List ℕ → Option FaultyVerb
plain_or_fault (Some named) word = Some (faulty.Plain named)
plain_or_fault None word =
    if bytes_eq word (codes "garbleup") then Some faulty.GarbleUp
    else if bytes_eq word (codes "garbledown") then Some faulty.GarbleDown
    else if bytes_eq word (codes "boardlost") then Some faulty.BoardLost
    else if bytes_eq word (codes "restart") then Some faulty.Restart
    else if bytes_eq word (codes "giveup") then Some faulty.GiveUp
    else None

abbrev pub faulty_named : List ℕ → Option FaultyVerb
faulty_named word = plain_or_fault (verb_named word) word

pub faulty_named-faulty_text : (named : FaultyVerb) → faulty_named (faulty_text named) ≡ Some named
faulty_named-faulty_text named = search (rules, verb_named-verb_text)

-- the first word of a line that asks for the act
abbrev pub faulty_verb_of : FaultyContent → FaultyVerb
faulty_verb_of (FaultyContent.Plain act) = faulty.Plain (verb_of act)
faulty_verb_of (FaultyContent.GarbleUp bytes) = faulty.GarbleUp
faulty_verb_of (FaultyContent.GarbleDown bytes) = faulty.GarbleDown
faulty_verb_of FaultyContent.BoardLost = faulty.BoardLost
faulty_verb_of FaultyContent.Restart = faulty.Restart
faulty_verb_of FaultyContent.GiveUp = faulty.GiveUp

pub asks_faulty_in_order : (parts : List (List ℕ)) (act : FaultyContent) → AsksFaulty parts act
    → (rest : List (List ℕ)) × (parts ≡ faulty_text (faulty_verb_of act) ∷ rest)
    × AreOf (faulty_kinds (faulty_verb_of act)) rest
asks_faulty_in_order parts (FaultyContent.Plain act) h = asks_in_order parts act h
asks_faulty_in_order parts (FaultyContent.GarbleUp bytes) h = (h.0 ∷ [], h.1, ((bytes, h.2), tt))
asks_faulty_in_order parts (FaultyContent.GarbleDown bytes) h = (h.0 ∷ [], h.1, ((bytes, h.2), tt))
asks_faulty_in_order parts act h = ([], h, tt)

-- an act for each list of words of the right kinds
pub faulty_kinds_ask : (named : FaultyVerb) (rest : List (List ℕ)) → AreOf (faulty_kinds named) rest
    → (act : FaultyContent) × AsksFaulty (faulty_text named ∷ rest) act
faulty_kinds_ask (faulty.Plain named) rest h =
    let plain = kinds_ask named rest h in (FaultyContent.Plain plain.0, plain.1)
faulty_kinds_ask faulty.GarbleUp (word ∷ []) h = (FaultyContent.GarbleUp h.0.0, (word, refl, h.0.1))
faulty_kinds_ask faulty.GarbleDown (word ∷ []) h =
    (FaultyContent.GarbleDown h.0.0, (word, refl, h.0.1))
faulty_kinds_ask faulty.BoardLost [] h = (FaultyContent.BoardLost, refl)
faulty_kinds_ask faulty.Restart [] h = (FaultyContent.Restart, refl)
faulty_kinds_ask faulty.GiveUp [] h = (FaultyContent.GiveUp, refl)
faulty_kinds_ask named rest h = search rules

abbrev pub faulty_order : IsOrdered faulty_words
faulty_order = record {
  named = faulty_named;
  names = faulty_named-faulty_text;
  verb_of = faulty_verb_of;
  begins = asks_faulty_in_order;
}

-- ---- One act

pub same_faulty_act : IsRead → EncodingsGiveCommands → (parts : List (List ℕ)) (a b : FaultyContent)
    → faulty_verb_of a ≡ faulty_verb_of b → AsksFaulty parts a → AsksFaulty parts b → a ≡ b
same_faulty_act exact gives parts a b e h k = search (rules, same_act, one_value, decode_of-same)

-- ---- Lines

-- a line that goes wrong after its first byte does so with faults too
pub bad_with_faults : (line : List ℕ) (at : ℕ) → IsBadAt plain_words line at → at ≢ 0
    → IsBadAt faulty_words line at
bad_with_faults line at (inl g) later = inl g
bad_with_faults line at (inr (short, bad, inl g, left)) later = search (rules, length-words)
bad_with_faults line at (inr (short, bad, inr g, left)) later =
    inr (short, bad, inr (faulty.Plain g.0, g.1, g.2, g.3), left)
