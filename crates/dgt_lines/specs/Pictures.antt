-- The lines of a board's positions: one for each message that sets the picture. A line is an
-- offset, a space, a placement and a line feed.
use Rattle.std.specs.Prelude.{◌≡◌, ℕ, List, [], ◌∷◌, ◌++◌, fold, map, Option, Some, None}
use Rattle.std.specs.List.{flat_map, last_or}
use Rattle.dgt_values.specs.declared.pieces.Piece.{Piece}
use Rattle.dgt_values.specs.Placement.{placement_text}
use Rattle.dgt_message.specs.Content.Content.{dump, field}
use Rattle.dgt_decode.specs.Grammar.{Event, Message, Placed, events}
use Rattle.dgt_message.specs.Picture.{picture_after}
use Rattle.dgt_lines.specs.Lines.{line}

-- ---- The picture

-- the picture after an event: only a message changes it
abbrev pub picture_after_event : Option (List Piece) → Event → Option (List Piece)
picture_after_event picture (Message said) = picture_after picture said
picture_after_event picture _ = picture

abbrev pub picture_after_events : Option (List Piece) → List Placed → Option (List Piece)
picture_after_events picture placed =
    fold (λ before x. picture_after_event before x.event) picture placed

-- the picture after all events of these bytes, from an unknown picture on
abbrev pub picture_reported : List ℕ → Option (List Piece)
picture_reported bytes = picture_after_events None (events bytes)

-- ---- The messages that set it

-- the pieces, and the number of bytes up to and including the message that sets them
pub record PlacedPicture : Type 0 where
  pub place : ℕ
  pub pieces : List Piece

abbrev pub picture_at : ℕ → List Piece → PlacedPicture
picture_at place pieces = record { place = place; pieces = pieces }

-- the picture at this place, if it is known
abbrev pub known_at : ℕ → Option (List Piece) → List PlacedPicture
known_at place None = []
known_at place (Some pieces) = picture_at place pieces ∷ []

-- the picture that an event at this place sets, if this is the picture after it: a dump always
-- sets it, and a field if it is known
abbrev pub picture_set : ℕ → Event → Option (List Piece) → List PlacedPicture
picture_set place (Message (dump _)) after = known_at place after
picture_set place (Message (field _ _)) after = known_at place after
picture_set place _ after = []

-- the results of events one after another, each with the state before it
abbrev pub made_by : {S A : Type 0} → (S → Event → S) → (ℕ → Event → S → List A) → S → List Placed
    → List A
made_by after made before [] = []
made_by after made before (x ∷ more) =
    made x.place x.event before ++ made_by after made (after before x.event) more

-- the pictures that events set, from this picture on
abbrev pub pictures : Option (List Piece) → List Placed → List PlacedPicture
pictures before placed =
    made_by picture_after_event
    (λ place event state. picture_set place event (picture_after_event state event)) before placed

-- ---- Lines

abbrev pub picture_line : PlacedPicture → List ℕ
picture_line x = line x.place (placement_text x.pieces)

-- a line for each picture that events set
abbrev pub picture_lines : Option (List Piece) → List Placed → List ℕ
picture_lines before placed = flat_map picture_line (pictures before placed)

-- a line for each picture that bytes set, from an unknown picture on
abbrev pub pictures_text : List ℕ → List ℕ
pictures_text bytes = picture_lines None (events bytes)

-- The last line is that of the picture after all messages that were read. There is none if that
-- picture is unknown.
abbrev pub LastLineIsPicture : Type 0
LastLineIsPicture =
    (bytes : List ℕ) → last_or None (map (λ x. x.pieces) (pictures None (events bytes)))
    ≡ picture_reported bytes
