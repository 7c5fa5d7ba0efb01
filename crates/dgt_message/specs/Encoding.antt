-- The bytes of a message: a header of three bytes, and a body.
use Rattle.std.specs.Prelude.{◌≡◌, ℕ, ◌+◌, ◌*◌, ◌/◌, ◌%◌, ◌<◌, ◌≤◌, List, [], ◌∷◌, ◌++◌, drop}
use Rattle.std.specs.Prelude.{length, map, slice_index}
use Rattle.std.specs.Int.{bit_at}
use Rattle.dgt_values.specs.Board.{piece_code}
use Rattle.dgt_values.specs.Bytes.{AreSevenBit}
use Rattle.dgt_message.specs.Clock.{Time, Times, Answer, ack_mark, IsMarked}
use Rattle.dgt_message.specs.Content.{Content, code_of, IsMessage}

-- tens in the high four bits, and units in the low four
abbrev pub packed_decimal : ℕ → ℕ
packed_decimal n = 16 * (n / 10) + n % 10

abbrev pub time_bytes : Time → List ℕ
time_bytes t =
    (t.hours + 16 * t.flags) ∷ packed_decimal t.minutes ∷ packed_decimal t.seconds ∷ []

abbrev pub times_bytes : Times → List ℕ
times_bytes t = time_bytes t.first ++ time_bytes t.second ++ t.status ∷ []

-- The four bytes of a reply: their low seven bits are bytes 1, 2, 4 and 5. Their top bits are D4
-- and D5 of byte 3, and D4 and D5 of byte 0.
abbrev pub ack_in : List ℕ → List ℕ
ack_in body =
    let at : ℕ → ℕ = slice_index body in
    (at 1 + 128 * bit_at (at 3) 4) ∷ (at 2 + 128 * bit_at (at 3) 5)
    ∷ (at 4 + 128 * bit_at (at 0) 4) ∷ (at 5 + 128 * bit_at (at 0) 5) ∷ []

-- the mark with the top bits of two bytes as D4 and D5
abbrev pub mark_with : ℕ → ℕ → ℕ
mark_with x y = ack_mark + 16 * (x / 128) + 32 * (y / 128)

-- the encoding of an acknowledgement that `encode` writes: both marks, and D6 of both clear
abbrev pub ack_encoding : Answer → List ℕ
ack_encoding answer =
    let at : ℕ → ℕ = slice_index answer.ack in
    mark_with (at 2) (at 3) ∷ at 0 % 128 ∷ at 1 % 128
    ∷ mark_with (at 0) (at 1) ∷ at 2 % 128 ∷ at 3 % 128 ∷ answer.status ∷ []

-- the body that `encode` writes
abbrev pub body_encoding : Content → List ℕ
body_encoding (Content.dump pieces) = map piece_code pieces
body_encoding (Content.field square piece) = square ∷ piece_code piece ∷ []
body_encoding (Content.times readings) = times_bytes readings
body_encoding (Content.no_clock absence) = absence.raw ++ absence.status ∷ []
body_encoding (Content.ack answer) = ack_encoding answer
body_encoding (Content.carried code body) = body

-- the body encodes the message: an acknowledgement has several encodings
abbrev pub BodyEncodes : Content → List ℕ → Type 0
BodyEncodes (Content.ack answer) body =
    (length body ≡ 7) × IsMarked body
    × (answer.ack ≡ ack_in body) × (answer.status ≡ slice_index body 6)
BodyEncodes said body = body ≡ body_encoding said

-- a body under this code means this
pub record Fits (said : Content) (code : ℕ) (body : List ℕ) : Type 0 where
  pub is_message : IsMessage said
  pub code_is : code ≡ code_of said
  pub encoded : BodyEncodes said body

-- the number of two digits in base 128
abbrev pub total : ℕ → ℕ → ℕ
total high low = 128 * high + low

-- the first byte carries the code, the next two the length of the whole, and no later byte has its
-- top bit set
pub record HasHeader (code : ℕ) (bytes : List ℕ) : Type 0 where
  pub long_enough : 3 ≤ length bytes
  pub short_enough : length bytes < 16384
  pub code_is : slice_index bytes 0 ≡ 128 + code
  pub total_is : total (slice_index bytes 1) (slice_index bytes 2) ≡ length bytes
  pub seven_bit : AreSevenBit (drop 1 bytes)

-- the bytes encode the message
pub record Encodes (said : Content) (bytes : List ℕ) : Type 0 where
  pub is_message : IsMessage said
  pub header : HasHeader (code_of said) bytes
  pub encoded : BodyEncodes said (drop 3 bytes)

-- the bytes with this code and this body
abbrev pub message_bytes : ℕ → List ℕ → List ℕ
message_bytes code body =
    (128 + code) ∷ (length body + 3) / 128 ∷ (length body + 3) % 128 ∷ body

-- the encoding that `encode` writes
abbrev pub encoding : Content → List ℕ
encoding said = message_bytes (code_of said) (body_encoding said)
