-- The vocabulary of plain lines is ordered, and words ask for one act at most.
use Rattle.{std.{proofs.Common.{◌≡◌, ℕ, List, [], ◌∷◌, Option, Some, None, refl, rules}, specs.Prelude.{bytes_eq, if◌then◌else◌}}, dgt_command.specs.Laws.{EncodingsGiveCommands}}
use Rattle.{dgt_link.specs.Act.{ActContent, Change, ClockRead, Host, BoardSend, ToBoard, ToHost, Break, HostBreak}, dgt_script.specs.Script.{AreOf, Asks, kinds_after, plain_words}}
use Rattle.dgt_script.{specs.{ScriptWords.{verb_text}, declared.script_words.Verb.{Verb}}, proofs.ScriptWordLemmas.{IsRead, one_clock, one_command, one_count, one_piece, one_square}}
use Rattle.dgt_script.proofs.VocabularyLemmas.{IsOrdered, one_value}
use Rattle.dgt_script.specs.declared.script_words.Verb.TheVariants as verb

-- ---- The first word

abbrev pub verb_named : List ℕ → Option Verb
verb_named word =
    if bytes_eq word (verb_text verb.Change) then Some verb.Change
    else if bytes_eq word (verb_text verb.Clock) then Some verb.Clock
    else if bytes_eq word (verb_text verb.Host) then Some verb.Host
    else if bytes_eq word (verb_text verb.Send) then Some verb.Send
    else if bytes_eq word (verb_text verb.ToBoard) then Some verb.ToBoard
    else if bytes_eq word (verb_text verb.ToHost) then Some verb.ToHost
    else if bytes_eq word (verb_text verb.Break) then Some verb.Break
    else if bytes_eq word (verb_text verb.HostBreak) then Some verb.HostBreak
    else None

pub verb_named-verb_text : (named : Verb) → verb_named (verb_text named) ≡ Some named
verb_named-verb_text named = search rules

-- the first word of a line that asks for the act
abbrev pub verb_of : ActContent → Verb
verb_of (Change square piece) = verb.Change
verb_of (ClockRead clock) = verb.Clock
verb_of (Host command) = verb.Host
verb_of BoardSend = verb.Send
verb_of (ToBoard count) = verb.ToBoard
verb_of (ToHost count) = verb.ToHost
verb_of Break = verb.Break
verb_of HostBreak = verb.HostBreak

pub asks_in_order : (parts : List (List ℕ)) (act : ActContent) → Asks parts act
    → (rest : List (List ℕ)) × (parts ≡ verb_text (verb_of act) ∷ rest)
    × AreOf (kinds_after (verb_of act)) rest
asks_in_order parts (Change square piece) h =
    (h.0 ∷ h.1 ∷ [], h.2, ((square, h.3), ((piece, h.4), tt)))
asks_in_order parts BoardSend h = ([], h, tt)
asks_in_order parts Break h = ([], h, tt)
asks_in_order parts HostBreak h = ([], h, tt)
asks_in_order parts act h = (h.0 ∷ [], h.1, ((_, h.2), tt))

-- an act for each list of words of the right kinds
pub kinds_ask : (named : Verb) (rest : List (List ℕ)) → AreOf (kinds_after named) rest
    → (act : ActContent) × Asks (verb_text named ∷ rest) act
kinds_ask verb.Change (first ∷ second ∷ []) h =
    (Change h.0.0 h.1.0.0, (first, second, refl, h.0.1, h.1.0.1))
kinds_ask verb.Clock (word ∷ []) h = (ClockRead h.0.0, (word, refl, h.0.1))
kinds_ask verb.Host (word ∷ []) h = (Host h.0.0, (word, refl, h.0.1))
kinds_ask verb.Send [] h = (BoardSend, refl)
kinds_ask verb.ToBoard (word ∷ []) h = (ToBoard h.0.0, (word, refl, h.0.1))
kinds_ask verb.ToHost (word ∷ []) h = (ToHost h.0.0, (word, refl, h.0.1))
kinds_ask verb.Break [] h = (Break, refl)
kinds_ask verb.HostBreak [] h = (HostBreak, refl)
kinds_ask named rest h = search rules

abbrev pub plain_order : IsOrdered plain_words
plain_order = record {
  named = verb_named;
  names = verb_named-verb_text;
  verb_of = verb_of;
  begins = asks_in_order;
}

-- ---- One act

pub same_act : IsRead → EncodingsGiveCommands → (parts : List (List ℕ)) (a b : ActContent)
    → verb_of a ≡ verb_of b → Asks parts a → Asks parts b → a ≡ b
same_act exact gives parts (Change s p) (Change t q) e h k = search (rules, one_square, one_piece)
same_act exact gives parts (ClockRead s) (ClockRead t) e h k = search (rules, one_value, one_clock)
same_act exact gives parts (Host s) (Host t) e h k = search (rules, one_value, one_command)
same_act exact gives parts (ToBoard s) (ToBoard t) e h k = search (rules, one_value, one_count)
same_act exact gives parts (ToHost s) (ToHost t) e h k = search (rules, one_value, one_count)
same_act exact gives parts BoardSend BoardSend e h k = refl
same_act exact gives parts Break Break e h k = refl
same_act exact gives parts HostBreak HostBreak e h k = refl
same_act exact gives parts a b e h k = cc e
