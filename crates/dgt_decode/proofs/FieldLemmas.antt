-- The messages that are field updates: five bytes, of which the last two are a square and a piece.
use Rattle.std.{proofs.{Common.{◌≡◌, ℕ, ◌<◌, List, [], ◌∷◌, Result, Ok, ap, arith, drop, length, slice_index, rules}, lemmas.List.Elements.{All-drop}}, specs.Prelude.{◌↔◌}}
use Rattle.{std.specs.Prelude.{◌-◌}, dgt_values.specs.{Board.{piece_code, square_number}, Bytes.{AreSevenBit}, declared.{pieces.Piece.{Piece}, squares.Square.{Square}}}}
use Rattle.dgt_message.{specs.{Content.{Content, IsCarried}, Encoding.{Fits}, Reading.{reading}, Content.Content.{field}, declared.viewing.BodyFault.{BodyFault}}}
use Rattle.dgt_decode.specs.{Feeding.{IsWholeMessage}, Grammar.{Message, message_event, reading_event}}

-- a message that fits a code and a body is their reading
abbrev pub IsRead : Type 0
IsRead = (code : ℕ) (body : List ℕ) (said : Content) → code < 128 → IsCarried body
    → (reading code body ≡ Ok said) ↔ Fits said code body

-- the reading of a body of two bytes that are a square and the code of a piece
field_read : IsRead → (square : Square) (piece : Piece) (s p : ℕ) → s < 64 → p < 128
    → square_number square ≡ s → piece_code piece ≡ p
    → reading 14 (s ∷ p ∷ []) ≡ Ok (field (square_number square) piece)
field_read exact square piece s p small small' e f =
    (exact 14 (s ∷ p ∷ []) (field (square_number square) piece) (omega arith)
    (omega arith, search rules)).1 (search rules)

pub field_reported : IsRead → (bytes : List ℕ) (square : Square) (piece : Piece)
    → AreSevenBit (drop 1 bytes) → length bytes ≡ 5 → slice_index bytes 0 ≡ 142
    → slice_index bytes 3 < 64 → square_number square ≡ slice_index bytes 3
    → piece_code piece ≡ slice_index bytes 4
    → message_event bytes ≡ Message (field (square_number square) piece)
field_reported exact (a ∷ b ∷ c ∷ s ∷ p ∷ []) square piece seven five code small e f =
    rw code
    (ap (reading_event 14) (field_read exact square piece s p small (seven 3 0 (omega arith)) e f))
field_reported exact _ square piece seven five code small e f = absurd (omega (arith, five))

-- a reading with a message as its event is this message's
pub read_of : (code : ℕ) (read : Result Content BodyFault) (said : Content)
    → reading_event code read ≡ Message said → read ≡ Ok said
read_of code read said e = grind arith

-- A message with the piece of one square has five bytes, the first of which is 142. Its square is
-- below 64, and its piece below 16.
pub only_field : IsRead → (bytes : List ℕ) (square : ℕ) (piece : Piece) → slice_index bytes 0 < 256
    → IsWholeMessage bytes → message_event bytes ≡ Message (field square piece)
    → (slice_index bytes 0 ≡ 142) × (length bytes ≡ 5) × (slice_index bytes 3 < 64)
    × (slice_index bytes 4 < 16)
only_field exact (a ∷ b ∷ c ∷ body) square piece byte w e =
    let seven : AreSevenBit body = All-drop (λ byte. byte < 128) 2 (b ∷ c ∷ body) w.later in
    let carried : IsCarried body =
    (omega (arith, w.whole, w.later 0 0 (omega arith), w.later 1 0 (omega arith)), seven) in
    let fits : Fits (field square piece) (a - 128) body =
    (exact (a - 128) body (field square piece) (omega arith) carried).0 (read_of _ _ _ e) in
    search rules
only_field exact _ square piece byte w e = absurd (omega (arith, w.long))
