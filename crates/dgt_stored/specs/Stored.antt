-- What a board stores while no host is connected: the body of a message with the code 0f is a list
-- of such items. The published header names these bytes; their meaning is known from other
-- programs.
use Rattle.std.specs.Prelude.{◌≡◌, ℕ, ◌+◌, ◌*◌, ◌<◌, ◌≤◌, if◌then◌else◌, List, [], ◌∷◌, ◌++◌}
use Rattle.dgt_values.specs.declared.pieces.Piece.{Piece}
use Rattle.dgt_values.specs.Board.{piece_code, square_number}
use Rattle.dgt_message.specs.Clock.{Time, IsTime}
use Rattle.dgt_message.specs.Content.{time_seen}
use Rattle.dgt_message.specs.Encoding.{time_bytes}
use Rattle.dgt_stored.specs.declared.stored.Mark.{Mark}
use Rattle.dgt_stored.specs.declared.stored.Stored.{Stored}

pub data StoredContent : Type 0 where
  piece : (square : ℕ) (piece : Piece) (bit : ℕ) → StoredContent
  time : Time → StoredContent
  mark : Mark → StoredContent
  unknown : ℕ → StoredContent

abbrev pub stored_content : Stored → StoredContent
stored_content (Stored.Piece square stands bit) =
    StoredContent.piece (square_number square) stands (if bit then 1 else 0)
stored_content (Stored.Time reading) = StoredContent.time (time_seen reading)
stored_content (Stored.Mark marks) = StoredContent.mark marks
stored_content (Stored.Unknown byte) = StoredContent.unknown byte

abbrev pub mark_byte : Mark → ℕ
mark_byte Mark.Nothing = 0x00
mark_byte Mark.PowerUp = 0x6a
mark_byte Mark.End = 0x6b
mark_byte Mark.FourRows = 0x6c
mark_byte Mark.EmptyBoard = 0x6d
mark_byte Mark.Downloaded = 0x6e
mark_byte Mark.Begin = 0x6f
mark_byte Mark.TurnedBegin = 0x7a
mark_byte Mark.Tag = 0x7b
mark_byte Mark.Watchdog = 0x7c
mark_byte Mark.Erased = 0x7f

-- D4 of the byte of a piece is carried unread. The high four bits of the byte of the hours are 6
-- for one player and 7 for the other.
abbrev pub stored_bytes : StoredContent → List ℕ
stored_bytes (StoredContent.piece square stands bit) =
    (0x40 + 16 * bit + piece_code stands) ∷ square ∷ []
stored_bytes (StoredContent.time shown) = time_bytes shown
stored_bytes (StoredContent.mark marks) = mark_byte marks ∷ []
stored_bytes (StoredContent.unknown byte) = byte ∷ []

-- its values are in their ranges
abbrev pub IsStored : StoredContent → Type 0
IsStored (StoredContent.piece square stands bit) = (square < 64) × (bit < 2)
IsStored (StoredContent.time shown) = IsTime shown × (6 ≤ shown.flags)
IsStored _ = Unit {0}

abbrev pub IsKnown : StoredContent → Type 0
IsKnown (StoredContent.unknown byte) = ⊥
IsKnown _ = Unit {0}

-- These bytes begin with the item, and continue with the others.
pub record Begins (bytes : List ℕ) (stored : StoredContent) (later : List ℕ) : Type 0 where
  pub in_range : IsStored stored
  pub begins : bytes ≡ stored_bytes stored ++ later

-- It is the first item of these bytes. A byte is unknown only if the bytes begin with no other
-- item.
pub record IsFirst (bytes : List ℕ) (stored : StoredContent) (later : List ℕ) : Type 0 where
  pub begins : Begins bytes stored later
  pub known_first : (other : StoredContent) (others : List ℕ) → IsKnown other
      → Begins bytes other others → IsKnown stored

-- A body is exactly these items in this order: each is the first of the bytes after the one before.
abbrev pub Says : List ℕ → List StoredContent → Type 0
Says bytes [] = bytes ≡ []
Says bytes (stored ∷ more) = (later : List ℕ) × IsFirst bytes stored later × Says later more
