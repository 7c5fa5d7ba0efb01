-- The lines of a board's stored events, from messages with the code 0f. A line is an offset, a
-- space, a text and a line feed.
use Rattle.std.specs.Prelude.{◌≡◌, ℕ, ◌+◌, ◌-◌, ◌==◌, if◌then◌else◌, List, [], ◌∷◌, ◌++◌, codes, length}
use Rattle.dgt_values.specs.Board.{piece_letter, square_name}
use Rattle.dgt_message.specs.Content.Content.{carried}
use Rattle.dgt_stored.specs.declared.stored.Mark.{Mark}
use Rattle.dgt_stored.specs.Stored.{Says, StoredContent, stored_bytes}
use Rattle.dgt_decode.specs.Grammar.{Event, Message, Placed}
use Rattle.dgt_lines.specs.Lines.{byte_text, line, reading_text, words_text}

abbrev pub mark_text : Mark → List ℕ
mark_text Mark.Nothing = codes "nothing"
mark_text Mark.PowerUp = codes "powerup"
mark_text Mark.End = codes "end"
mark_text Mark.FourRows = codes "fourrows"
mark_text Mark.EmptyBoard = codes "emptyboard"
mark_text Mark.Downloaded = codes "downloaded"
mark_text Mark.Begin = codes "begin"
mark_text Mark.TurnedBegin = codes "turnedbegin"
mark_text Mark.Tag = codes "tag"
mark_text Mark.Watchdog = codes "watchdog"
mark_text Mark.Erased = codes "erased"

-- a plus follows a piece if its carried bit is set
unfoldable pub stored_text : StoredContent → List ℕ
stored_text (StoredContent.piece square stands bit) =
    words_text (codes "piece" ∷ square_name square ∷ (piece_letter stands ∷ []) ∷ [])
    ++ (if bit == 1 then codes " +" else [])
stored_text (StoredContent.time shown) = words_text (codes "time" ∷ reading_text shown ∷ [])
stored_text (StoredContent.mark marks) = mark_text marks
stored_text (StoredContent.unknown byte) = words_text (codes "unknown" ∷ byte_text byte ∷ [])

-- a line for each stored event; this number of bytes precedes them
abbrev pub stored_lines : ℕ → List StoredContent → List ℕ
stored_lines before [] = []
stored_lines before (stored ∷ more) =
    line (before + length (stored_bytes stored)) (stored_text stored)
    ++ stored_lines (before + length (stored_bytes stored)) more

-- the body of a message with the code 0f; none for other events
abbrev pub log_body : Event → List ℕ
log_body (Message (carried code body)) = if code == 0x0f then body else []
log_body _ = []

-- events have this text: the lines of the stored events in the body of each
abbrev pub HasLog : List Placed → List ℕ → Type 0
HasLog [] text = text ≡ []
HasLog (x ∷ more) text =
    (things : List StoredContent) × (others : List ℕ) × Says (log_body x.event) things
    × HasLog more others
    × (text ≡ stored_lines (x.place - length (log_body x.event)) things ++ others)
