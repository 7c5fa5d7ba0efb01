-- How a code and a body are read: as the message that fits them, or as the one fault of the body.
-- The fault is a wrong size, or else the first byte that isn't valid in its place. The law
-- `reading_is_exact` says that the computed `reading` agrees with `Fits` and with `IsFaultOf`.
use Rattle.std.specs.Prelude.{◌≡◌, ℕ, zero, suc, ◌+◌, ◌*◌, ◌/◌, ◌%◌, ◌<◌, ◌≤◌, ◌==◌, ◌&&◌}
use Rattle.std.specs.Prelude.{Bool, true, nat_lt, nat_le, if◌then◌else◌, List, [], ◌∷◌, length}
use Rattle.std.specs.Prelude.{map, take, slice_index, slice_index_or, Option, Some, None, Result}
use Rattle.std.specs.Prelude.{Ok, Err, MatchResult}
use Rattle.std.specs.Option.{option_map_or, option_or}
use Rattle.dgt_values.specs.declared.pieces.Piece.{Piece}
use Rattle.dgt_message.specs.declared.message.Message.{Message}
use Rattle.dgt_message.specs.declared.viewing.BodyFault.{BodyFault}
use Rattle.dgt_message.specs.Clock.{Time, absence_of, time_of, times_of}
use Rattle.dgt_message.specs.Content.{Content, content}
use Rattle.dgt_message.specs.Code.{HasSize, known_total, known_with}
use Rattle.dgt_message.specs.Layout.{Column, Layout, column_at, layout_of}
use Rattle.dgt_message.specs.Encoding.{ack_in, Fits}

-- a byte is valid in a column: two digits are packed, with tens in the high four bits
abbrev pub Allows : Column → ℕ → Type 0
Allows Column.square byte = byte < 64
Allows Column.piece byte = byte < 16
Allows Column.hours byte = byte % 16 ≤ 9
Allows Column.sixty byte = (byte / 16 ≤ 5) × (byte % 16 ≤ 9)
Allows Column.anything byte = Unit {0}

abbrev pub AllowsAt : ℕ → List ℕ → ℕ → Type 0
AllowsAt code body place = Allows (column_at code body place) (slice_index body place)

-- the first invalid byte of a body of the right size is at this place
pub record IsFirstBad (code : ℕ) (body : List ℕ) (at : ℕ) : Type 0 where
  pub size : HasSize code body
  pub within : at < length body
  pub bad : ¬ (AllowsAt code body at)
  pub first : (place : ℕ) → place < at → AllowsAt code body place

-- the body has this fault under this code
abbrev pub IsFaultOf : ℕ → List ℕ → BodyFault → Type 0
IsFaultOf code body BodyFault.WrongSize = ¬ (HasSize code body)
IsFaultOf code body (BodyFault.BadPiece at) =
    IsFirstBad code body at × (column_at code body at ≡ Column.piece)
IsFaultOf code body (BodyFault.BadSquare at) =
    IsFirstBad code body at × (column_at code body at ≡ Column.square)
IsFaultOf code body (BodyFault.BadReading at) =
    IsFirstBad code body at × (layout_of code body ≡ Layout.times)

-- the result is the message of the body, or its fault
abbrev pub Views : ℕ → List ℕ → Result Message BodyFault → Type 0
Views code body r = MatchResult r
    (λ message. Fits (content message) code body)
    (IsFaultOf code body)

-- ---- The same, computed

-- the piece with a code, for codes below 16
abbrev pub piece_with_code : ℕ → Piece
piece_with_code n =
    slice_index_or (Piece.Empty ∷ Piece.WhitePawn ∷ Piece.WhiteRook ∷ Piece.WhiteKnight
    ∷ Piece.WhiteBishop ∷ Piece.WhiteKing ∷ Piece.WhiteQueen ∷ Piece.BlackPawn ∷ Piece.BlackRook
    ∷ Piece.BlackKnight ∷ Piece.BlackBishop ∷ Piece.BlackKing ∷ Piece.BlackQueen
    ∷ Piece.FirstExtra ∷ Piece.SecondExtra ∷ Piece.ThirdExtra ∷ []) n Piece.Empty

-- the time of one player, from its three bytes
abbrev pub time_in : ℕ → ℕ → ℕ → Time
time_in h m s = time_of (h % 16) (10 * (m / 16) + m % 16) (10 * (s / 16) + s % 16) (h / 16)

-- the message in a body of the right size with valid bytes only, by its layout
abbrev pub said_in : Layout → ℕ → List ℕ → Content
said_in Layout.dump code body = Content.dump (map piece_with_code body)
said_in Layout.field code body =
    Content.field (slice_index body 0) (piece_with_code (slice_index body 1))
said_in Layout.times code body =
    let at : ℕ → ℕ = slice_index body in
    Content.times (times_of (time_in (at 0) (at 1) (at 2)) (time_in (at 3) (at 4) (at 5)) (at 6))
said_in Layout.no_clock code body =
    Content.no_clock (absence_of (take 6 body) (slice_index body 6))
said_in Layout.ack code body =
    Content.ack (record { ack = ack_in body; status = slice_index body 6 })
said_in Layout.carried code body = Content.carried code body

-- whether a byte is valid in a column
abbrev pub is_allowed : Column → ℕ → Bool
is_allowed Column.square byte = nat_lt byte 64
is_allowed Column.piece byte = nat_lt byte 16
is_allowed Column.hours byte = nat_le (byte % 16) 9
is_allowed Column.sixty byte = nat_le (byte / 16) 5 && nat_le (byte % 16) 9
is_allowed Column.anything byte = true

-- the least number below a limit that fails a test
abbrev pub first_failure : (ℕ → Bool) → ℕ → Option ℕ
first_failure test zero = None
first_failure test (suc n) = option_or (first_failure test n) (if test n then None else Some n)

-- the first place of an invalid byte in a body
abbrev pub first_bad_place : ℕ → List ℕ → Option ℕ
first_bad_place code body = first_failure
    (λ place. is_allowed (column_at code body place) (slice_index body place)) (length body)

-- the fault of a byte that isn't valid in this column
abbrev pub fault_of : Column → ℕ → BodyFault
fault_of Column.square at = BodyFault.BadSquare at
fault_of Column.piece at = BodyFault.BadPiece at
fault_of _ at = BodyFault.BadReading at

-- the fault of a wrong size, or else that of the first bad place, or else the message
unfoldable pub reading : ℕ → List ℕ → Result Content BodyFault
reading code body =
    if option_map_or (λ total. length body + 3 == total) (known_total (known_with code)) true
    then option_map_or (λ at. Err (fault_of (column_at code body at) at))
    (first_bad_place code body) (Ok (said_in (layout_of code body) code body))
    else Err BodyFault.WrongSize
