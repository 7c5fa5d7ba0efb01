-- An encoding reports its command.
use Rattle.{std.proofs.{Common.{◌≡◌, ℕ, List, ap, ◌∙◌, length-append, rules}, lemmas.List.{take_at}}, dgt_command.specs.{Content.{CommandContent, Read}, Encoding.{command_in}}}
use Rattle.dgt_command.specs.{Encoding.{command_encoding, EncodesCommand}, Laws.{EncodingsGiveCommands}, Words.{IsWord}}

-- the one encoding of a command reports it
encoded_command : (c : CommandContent) → command_in (command_encoding c) ≡ c
unfolding command_in
encoded_command c = search (rules, take_at, length-append)

-- what encodes a command reports it
pub encodes_its_command : EncodingsGiveCommands
encodes_its_command c word h = ap command_in h.encoded ∙ encoded_command c

-- an encoding is a frame of the command that it reports
pub word_is_read : (c : CommandContent) (word : List ℕ) → EncodesCommand c word
    → IsWord (Read (command_in word)) word
word_is_read c word h =
    rw (encodes_its_command c word h) (record { form = h.encoded; are_bytes = h.are_bytes })
