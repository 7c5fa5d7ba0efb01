-- Which field a listener has heard last.
use Rattle.std.specs.Prelude.{◌≡◌, ℕ, Option, Some, option_map}
use Rattle.dgt_values.specs.declared.pieces.Piece.{Piece}
use Rattle.dgt_values.specs.Board.{square_number}
use Rattle.dgt_message.specs.Content.Content.{field}
use Rattle.dgt_decode.specs.Grammar.{Event, Message, Placed}
use Rattle.dgt_examples.specs.declared.decoding.Last.{Last}

-- the number of the square, and the piece on it
abbrev pub field_in : Last → Option (ℕ × Piece)
field_in last = option_map (λ it. (square_number it.0, it.1)) last.0

-- the last field after an event: that of the event if it is a field
abbrev pub field_after : Option (ℕ × Piece) → Event → Option (ℕ × Piece)
field_after before (Message (field square piece)) = Some (square, piece)
field_after before _ = before

abbrev pub HearsFields : Last → Placed → Last → Type 0
HearsFields last heard new = field_in new ≡ field_after (field_in last) heard.event
